-- An agent whose posts are some of those that it had.
use Rattle.std.proofs.Common.{◌≤◌, Bool, true, false, cond, List, [], ◌∷◌, length, filter, Option, Some, None, arith}
use Rattle.std.specs.List.{AllByRecursion}
use Rattle.ivy_base.specs.declared.key.Key.{Key}
use Rattle.log_model.specs.View.{View}
use Rattle.log_model.specs.Vector.{Vector}
use Rattle.dht_ids.specs.declared.post.Post.{Post}
use Rattle.replay_engine.specs.Engines.{Engine}
use Rattle.log_model.specs.Signing.{Signing}
use Rattle.agent_model.specs.SavedBytes.{ArePostsSpelled}
use Rattle.ivy_agent.specs.Holders.{IsSound, Stands, agent_of}
use Rattle.ivy_agent.specs.declared.saving.Kept.{Kept}

module _ (test : Post → Bool) where
  shorter : (b : Bool) (x : Post) (kept xs : List Post) → length kept ≤ length xs → length (cond b (x ∷ kept) kept) ≤ length (x ∷ xs)
  shorter true x kept xs h = omega (arith, h)
  shorter false x kept xs h = omega (arith, h)

  short : (xs : List Post) → length (filter test xs) ≤ length xs
  short [] = omega arith
  short (x ∷ xs) = shorter (test x) x (filter test xs) xs (short xs)

  chosen : (P : Post → Type 0) (b : Bool) (x : Post) (kept : List Post) → P x → AllByRecursion P kept → AllByRecursion P (cond b (x ∷ kept) kept)
  chosen P true x kept h all = (h, all)
  chosen P false x kept h all = all

  each_kept : (P : Post → Type 0) (xs : List Post) → AllByRecursion P xs → AllByRecursion P (filter test xs)
  each_kept P [] h = tt
  each_kept P (x ∷ xs) h = chosen P (test x) x (filter test xs) h.0 (each_kept P xs h.1)

  pub some_spelled : (xs : List Post) → ArePostsSpelled xs → ArePostsSpelled (filter test xs)
  some_spelled xs h = record { few = omega (arith, short xs, h.few); each = each_kept _ xs h.each }

module _ {S : Type 0} (signs : Signing S) (k : Kept S) (posts : List Post) (engine : Engine) (to_load : Option Key) (failed : Bool) where
  restands : (view : Option View) → Stands signs (agent_of k engine to_load failed) view → Stands signs (agent_of (record k { pending = posts }) engine to_load failed) view
  restands None h = record { nothing = h.nothing }
  restands (Some view) h = record { closed = h.closed; bounds = h.bounds; base = h.base; front = h.front }

  pub with_posts_sound : (log : Key) (front : Vector) → IsSound signs (agent_of k engine to_load failed) log front → ArePostsSpelled posts → IsSound signs (agent_of (record k { pending = posts }) engine to_load failed) log front
  with_posts_sound log front h spelled = record {
    its_log = h.its_log;
    its_front = h.its_front;
    kept = record {
      signer = tt;
      some = h.kept.some;
      few = h.kept.few;
      floor = h.kept.floor;
      view = h.kept.view;
      posts = spelled;
      snapshot = h.kept.snapshot;
    };
    stands = restands k.view h.stands;
  }
