-- A session that ended with Done, and what an agent became by those of all jobs.
use Rattle.std.proofs.Common.{◌≡◌, ◌⊎◌, ℕ, suc, ◌+◌, ◌^◌, List, [], ◌∷◌, ◌++◌, length, map, All, Option, Some, None, Result, Ok, Err}
use Rattle.std.proofs.Common.{refl, sym, ap, ◌∙◌, subst, arith, add-one}
use Rattle.std.specs.Prelude.{IsSomeAnd}
use Rattle.std.specs.List.{AllZip, range_with_len}
use Rattle.std.proofs.lemmas.List.Elements.{All-cons}
use mathlib.Core.List.{IsPrefix}
use Rattle.ivy_base.specs.declared.memory.Memory.{Memory}
use Rattle.dhash_model.specs.Signed.{hss_judged}
use Rattle.log_model.specs.View.{View}
use Rattle.value_gate.specs.Histories.{HaveTheSame, calls_by}
use Rattle.value_gate.specs.Passes.{IsPassOf, IsWhole, calls_of, parts_of}
use Rattle.ivy_agent.specs.Holders.{Holder}
use Rattle.agent_gate.specs.Sharing.{made_by, made_of}
use Rattle.agent_gate.specs.Taking.{AgentEntry, AgentKind, HasTaken}
use Rattle.agent_gate.proofs.Histories.{stays_in_view}
use Rattle.server_model.specs.declared.ended.Ended.{Ended}
use Rattle.server_model.specs.declared.ended.Ended.TheVariants as ended
use Rattle.ivy_server.specs.Laws.{WholeCallsAreDone}
use Rattle.ivy_server.specs.Served.{IsServed, Server, Surroundings}
use Rattle.ivy_serving.specs.Jobs.{Done, IsServedLink, Job as LinkJob, OnLink, ServingKind, ends_of, serving_of, surroundings_of}
use Rattle.ivy_crowd.specs.Jobs.{AreWith, CameBack, EndsAs, HasTurns, IsJob, IsNew}
use Rattle.ivy_crowd.specs.Sessions.{Asking, HasServed, HaveRun, MemberPass, Serving, Session, server_of, threads_of}
use Rattle.ivy_crowd.specs.declared.job.Job.{Job}
use Rattle.ivy_crowd.proofs.Others.{Begins, others_alone}
use Rattle.ivy_crowd.proofs.Sure.{not_risen}
use Rattle.ivy_crowd.proofs.Zips.{zip_over, zip_push, zip_right, zip_to, range_more}

-- ---- one job

-- a link between two ends in memory that don't fail, as a server of links has it
abbrev pub sure_links : {K S C : Type 0} → Serving K S C → ServingKind K S (List ℕ) (List ℕ) C
sure_links serving =
    serving_of serving.kind (ends_of (λ s. Some s) (λ s. Some s) (λ _. 0) (λ _. 0)) serving.gives

module _ {K S C : Type 0} (serving : Serving K S C) where
  abbrev pub link_of : Job K S C → OnLink K S (List ℕ) (List ℕ) C
  link_of job = record { reads = job.source; writes = job.sink; pass = job.pass; clock = job.clock }

  abbrev pub link_job : Job K S C → LinkJob K S (List ℕ) (List ℕ) C
  link_job job = record { gate = serving.gate; ring = serving.ring; link = link_of job }

  -- it ended with Done, or because memory ran out
  pub ends_so : (job : Job K S C) (done : Done K S (List ℕ) (List ℕ) C)
      → WholeCallsAreDone (server_of serving).taker serving.gives → IsNew serving.gate job
      → IsServedLink (sure_links serving) (link_job job) done → (done.how ≡ ended.Done) ⊎ (done.how ≡ ended.Memory)
  ends_so job done law new served =
      law (server_of serving).ring new.calls.framed (surroundings_of (sure_links serving) (link_of job))
      (surroundings_of (sure_links serving) done.link) done.how new.calls.fit new.calls.calls
      (ap (λ (l : List ℕ). Some l) new.calls.spelled) served.session not_risen not_risen

  -- the link of a job was served to its end
  pub came_back : (job : Job K S C) (done : Done K S (List ℕ) (List ℕ) C) → IsNew serving.gate job
      → IsServedLink (sure_links serving) (link_job job) done → done.how ≡ ended.Done → CameBack serving job done.link.pass
  came_back job done new served how =
      let before : Surroundings (MemberPass K S) C = surroundings_of (sure_links serving) (link_of job) in
      let after : Surroundings (MemberPass K S) C = surroundings_of (sure_links serving) done.link in
      record {
        fits = served.pass.of;
        part = served.pass.parts ∙ new.part;
        served = record {
          before = before;
          after = after;
          bytes_left = refl;
          nothing_held = ap (λ (l : List ℕ). Some l) new.unwritten;
          none_made = ap (λ (l : List AgentEntry). Some (map made_of l)) new.unused;
          its_clock = refl;
          all_made = refl;
          served = subst (λ (h : Ended). IsServed (server_of serving) before after h) how served.session;
        };
      }

-- ---- all jobs

module _ {K S C : Type 0} (serving : Serving K S C) where
  abbrev pub IsSame : Result (MemberPass K S) Memory → MemberPass K S → Type 0
  IsSame e p = e ≡ Ok p

  came_ok : (job : Job K S C) (e : Result (MemberPass K S) Memory) (pass : MemberPass K S) → EndsAs serving job e → e ≡ Ok pass
      → CameBack serving job pass
  came_ok job e pass ends is = subst (EndsAs serving job) is ends

  all_came : (jobs : List (Job K S C)) (ended : List (Result (MemberPass K S) Memory)) (others : List (MemberPass K S))
      → AllZip (EndsAs serving) jobs ended → AllZip IsSame ended others → AllZip (CameBack serving) jobs others
  all_came jobs ended others ends same =
      zip_over (EndsAs serving) IsSame (CameBack serving) came_ok jobs ended others ends same

  has_turns : (history : List AgentEntry) (job : Job K S C) (pass : MemberPass K S) → CameBack serving job pass
      → calls_by pass.number history ≡ pass.calls → HasTurns serving history job pass.number
  has_turns history job pass came same =
      subst (λ (l : List AgentEntry). HasServed serving job.source job.clock (map made_of l)) (sym same) came.served

  -- those that came back, and the first one, are passes of the gate
  pub all_fit : (first : MemberPass K S) (jobs : List (Job K S C)) (ended : List (Result (MemberPass K S) Memory))
      (passes : List (MemberPass K S)) → IsPassOf serving.gate first → AllZip (EndsAs serving) jobs ended → AreWith first ended passes
      → All (λ p. IsPassOf serving.gate p) passes
  all_fit first jobs ended passes fits ends with =
      let others : All (λ p. IsPassOf serving.gate p) with.others =
      zip_right (CameBack serving) (λ p. IsPassOf serving.gate p) (λ job pass came. came.fits) jobs with.others
      (all_came jobs ended with.others ends with.came) in
      subst (All (λ p. IsPassOf serving.gate p)) (sym with.are)
      (All-cons (λ p. IsPassOf serving.gate p) first with.others fits others)

  -- each brought its part
  parts_back : (jobs : List (Job K S C)) (others : List (MemberPass K S)) → AllZip (CameBack serving) jobs others
      → parts_of others ≡ length jobs
  parts_back [] [] all = refl
  parts_back [] (p ∷ others) all = absurd all
  parts_back (job ∷ jobs) [] all = absurd all
  parts_back (job ∷ jobs) (p ∷ others) all = omega (arith, all.0.part, parts_back jobs others all.1)

  -- together with the first one they have all parts
  pub all_parts : (first : MemberPass K S) (jobs : List (Job K S C)) (ended : List (Result (MemberPass K S) Memory))
      (passes : List (MemberPass K S)) → AllZip (EndsAs serving) jobs ended → AreWith first ended passes
      → first.parts + length jobs ≡ 2 ^ 32 → parts_of passes ≡ 2 ^ 32
  all_parts first jobs ended passes ends with sum =
      let others : parts_of with.others ≡ length jobs = parts_back jobs with.others (all_came jobs ended with.others ends with.came) in
      ap (λ (ps : List (MemberPass K S)). parts_of ps) with.are ∙ (ap (λ (n : ℕ). first.parts + n) others ∙ sum)

  -- the gate was closed with these passes
  pub have_run : (first : MemberPass K S) (jobs : List (Job K S C)) (ended : List (Result (MemberPass K S) Memory))
      (passes : List (MemberPass K S)) (closed : Holder K S) (turns : ℕ) → first.calls ≡ [] → AllZip (EndsAs serving) jobs ended
      → AreWith first ended passes → IsWhole (HasTaken serving.kind) serving.gate.opening passes closed turns
      → HaveRun serving (HasTurns serving) jobs closed turns
  have_run first jobs ended passes closed turns none ends with whole =
      let begins : All (Begins whole.history) (first ∷ with.others) = subst (All (Begins whole.history)) with.are whole.begins in
      let same : HaveTheSame whole.history (calls_of (first ∷ with.others)) =
      subst (λ (ps : List (MemberPass K S)). HaveTheSame whole.history (calls_of ps)) with.are whole.no_others in
      record {
        history = whole.history;
        has_taken = whole.value_stands;
        legal = whole.legal;
        count = whole.count;
        passes = map (λ (p : MemberPass K S). p.number) with.others;
        sessions = zip_to (CameBack serving) (Begins whole.history) (HasTurns serving whole.history)
            (λ (p : MemberPass K S). p.number) (λ job pass came begin. has_turns whole.history job pass came begin.1) jobs with.others
            (all_came jobs ended with.others ends with.came) (λ k d h. begins (suc k) d (omega arith));
        no_others = others_alone whole.history first with.others none begins same;
      }

  -- the jobs are those of the threads
  pub have_come : (asking : Asking C) (threads : List ℕ) (jobs : List (Job K S C)) (closed : Holder K S) (turns : ℕ)
      → AllZip (IsJob asking serving.gate) threads jobs → HaveRun serving (HasTurns serving) jobs closed turns
      → HaveRun serving (Session serving asking) threads closed turns
  have_come asking threads jobs closed turns are run = record {
    history = run.history;
    has_taken = run.has_taken;
    legal = run.legal;
    count = run.count;
    passes = run.passes;
    sessions = zip_over (IsJob asking serving.gate) (HasTurns serving run.history) (Session serving asking run.history)
        (λ thread job pass is turns. record {
          bytes = job.source;
          asked = is.asked;
          clock = job.clock;
          its_moment = is.its_moment;
          served = turns;
        }) threads jobs run.passes are run.sessions;
    no_others = run.no_others;
  }

-- the agent after all turns is still in its view
pub still_in_view : {K S : Type 0} (kind : AgentKind K S) (opening closed : Holder K S) (history : List AgentEntry)
    → HasTaken kind opening history closed → IsSomeAnd opening.agent.view (λ view. Unit {0})
    → IsSomeAnd closed.agent.view (λ view. Unit {0})
still_in_view kind opening closed history has some =
    subst (λ (o : Option View). IsSomeAnd o (λ view. Unit {0})) (sym (stays_in_view kind opening closed history has)) some

-- one more came back
pub with_more : {K S : Type 0} (first : MemberPass K S) (ended : List (Result (MemberPass K S) Memory)) (passes : List (MemberPass K S))
    (e : Result (MemberPass K S) Memory) (p : MemberPass K S) → AreWith first ended passes → e ≡ Ok p
    → AreWith first (ended ++ e ∷ []) (passes ++ p ∷ [])
with_more first ended passes e p with is = record {
  others = with.others ++ p ∷ [];
  are = ap (λ l. l ++ p ∷ []) with.are;
  came = zip_push (λ e p. e ≡ Ok p) ended with.others e p with.came is;
}

-- a job for one thread more
pub jobs_more : {J : Type 0} (R : ℕ → J → Type 0) (n : ℕ) (js : List J) (j : J) → AllZip R (threads_of n) js → R (n + 1) j
    → AllZip R (threads_of (n + 1)) (js ++ j ∷ [])
jobs_more R n js j all one =
    let next : R (1 + n) j = subst (λ (k : ℕ). R k j) (omega arith) one in
    let more : threads_of (suc n) ≡ threads_of n ++ (1 + n) ∷ [] = range_more 1 n in
    rw (add-one, more) (zip_push R (threads_of n) js (1 + n) j all next)
