-- Records among blocks: what callers need to know of where a record stands.
use Rattle.std.proofs.Common.{◌≡◌, ◌⊎◌, ⊎_elim, ℕ, List, [], ◌∷◌, ◌++◌, map, Contains, subst}
use Rattle.std.proofs.lemmas.List.Elements.{Contains-append_cases}
use Rattle.dht_ids.specs.declared.post.Post.{Post}
use Rattle.log_model.specs.Record.{Record}
use Rattle.log_model.specs.Spelling.{record_block}
use Rattle.log_model.specs.Standing.{Stand, StandsAmong}
use Rattle.log_model.proofs.Lists.{in_nothing, in_cons, here, there}
use Rattle.log_model.proofs.Standing.{stands_among_more}

-- it stands where its block does
pub stands_where_met : (blocks : List (List ℕ)) (r : Record) → Contains blocks (record_block r) → StandsAmong blocks r
stands_where_met blocks r met = met

-- what stands has its block met
pub block_is_met : (blocks : List (List ℕ)) (r : Record) → StandsAmong blocks r → Contains blocks (record_block r)
block_is_met blocks r stands = stands

-- records stand among more blocks too
pub stand_among_more : (blocks more : List (List ℕ)) → ((block : List ℕ) → Contains blocks block → Contains more block) → (records : List Record) → Stand blocks records → Stand more records
stand_among_more blocks more within [] stand = tt
stand_among_more blocks more within (r ∷ rs) stand = (stands_among_more blocks more r within stand.0, stand_among_more blocks more within rs stand.1)

-- it stands among one of two lists of blocks
pub stands_in_either : (blocks others : List (List ℕ)) (r : Record) → StandsAmong (blocks ++ others) r → StandsAmong blocks r ⊎ StandsAmong others r
stands_in_either blocks others r stands = Contains-append_cases blocks others (record_block r) stands

abbrev bytes_of : List Post → List (List ℕ)
bytes_of posts = map (λ (q : Post). q.bytes) posts

posted : (posts : List Post) (p : Post) → Contains posts p → Contains (bytes_of posts) p.bytes
posted [] p c = absurd (in_nothing p c)
posted (q ∷ qs) p c = ⊎_elim (λ e. subst (λ (x : Post). Contains (bytes_of (q ∷ qs)) x.bytes) e (here q.bytes (bytes_of qs))) (λ d. there q.bytes (bytes_of qs) p.bytes (posted qs p d)) (in_cons q qs p c)

-- it stands among the blocks of posts of which one is its block
pub stands_by_post : (posts : List Post) (p : Post) (r : Record) → Contains posts p → p.bytes ≡ record_block r → StandsAmong (map (λ (q : Post). q.bytes) posts) r
stands_by_post posts p r among same = subst (Contains (bytes_of posts)) same (posted posts p among)
