-- Where a root block can't be read.
use Rattle.std.proofs.Common.{ℕ, List, ◌++◌, Option, refl, arith}
use Rattle.ivy_base.specs.declared.key.Key.{Key}
use Rattle.wire_model.specs.Xdr.{word, double_word, optional, array, IsAny, IsWord, IsDoubleWord}
use Rattle.wire_model.specs.OneReading.{IsFront, HasNoFront}
use Rattle.wire_model.proofs.OneReading.{◌▷◌, one_double_word}
use Rattle.wire_model.proofs.Fronts.{both, no_first, no_second, none_of_fewer, front_of_parts}
use Rattle.wire_model.proofs.Dependent.{PartsOf, none_of_some}
use Rattle.log_model.specs.Rank.{Rank}
use Rattle.log_model.specs.Vector.{Vector}
use Rattle.log_model.specs.Spelling.{IsBlock, IsKey, vector_entry}
use Rattle.version_vectors.specs.Vectors.{VectorFits}
use Rattle.block_parts.specs.declared.fault.BlockFault.{BlockFault}
use Rattle.block_parts.specs.declared.fault.BlockFault.TheVariants as block
use Rattle.version_vectors.specs.Reading.{ReadFault}
use Rattle.snapshot_model.specs.Blocks.{NamedList, RootBlock, root_block, rank_bytes, listed_bytes, IsRankSpelled, IsVectorSpelled, IsListed, IsRootBlock, root_tag}
use Rattle.block_parts.specs.Parts.{constant_bytes, as_it_stands, key_bytes, IsOptional}
use Rattle.block_parts.proofs.OneParts.{one_block, one_key}
use Rattle.snapshot_model.proofs.OneBlock.{RootParts, root_parts, of_root_parts, one_front, one_tide}
use Rattle.snapshot_blocks.specs.Refusals.{RefusesFront}
use Rattle.block_parts.proofs.Constants.{one_constant}

-- ---- ranks

abbrev RankParts : Type 0
RankParts = (ℕ × List ℕ) × ℕ

rank_parts : (r : Rank) → IsRankSpelled r
    → PartsOf {A = RankParts} (λ p. (IsDoubleWord p.0.0 × IsBlock 60 p.0.1) × IsWord p.1) (λ p. double_word p.0.0 ++ as_it_stands p.0.1 ++ word p.1) (rank_bytes r)
rank_parts r f = record { part = ((r.weight, r.owner.0), r.seq); fits = ((f.weight, f.owner), f.seq); spelled = refl }

pub no_weight : {b0 : List ℕ} → HasNoFront IsDoubleWord double_word b0 → HasNoFront IsRankSpelled rank_bytes b0
no_weight absent = none_of_some rank_parts (no_first IsWord word (no_first (IsBlock 60) as_it_stands absent))

module _ {b0 b1 : List ℕ} {weight : ℕ} (f : IsFront IsDoubleWord double_word b0 weight b1) where
  pub no_owner : HasNoFront (IsBlock 60) as_it_stands b1 → HasNoFront IsRankSpelled rank_bytes b0
  no_owner absent = none_of_some rank_parts (no_first IsWord word (no_second one_double_word f absent))

  module _ {b2 owner : List ℕ} (g : IsFront (IsBlock 60) as_it_stands b1 owner b2) where
    pub no_seq : HasNoFront IsWord word b2 → HasNoFront IsRankSpelled rank_bytes b0
    no_seq absent = none_of_some rank_parts (no_second (one_double_word ▷ one_block 60) (both f g) absent)

    pub rank_front : {b3 : List ℕ} {seq : ℕ} → IsFront IsWord word b2 seq b3 → IsFront IsRankSpelled rank_bytes b0 (record { weight = weight; owner = record { 0 = owner }; seq = seq }) b3
    rank_front h = front_of_parts (λ (p : RankParts). record { weight = p.0.0; owner = record { 0 = p.0.1 }; seq = p.1 }) (record { weight = f.fits; owner = g.fits; seq = h.fits }) refl (both (both f g) h)

-- ---- fronts

pub spelled_vector : (v : Vector) → VectorFits 4294967295 v → IsVectorSpelled v
spelled_vector v f = record { each = f.whole.entries; in_order = f.whole.in_order; short = omega (arith, f.short) }

short_vector : (v : Vector) → IsVectorSpelled v → VectorFits 4294967295 v
short_vector v f = record { whole = record { entries = f.each; in_order = f.in_order }; short = omega (arith, f.short) }

pub front_of_vector : {bytes rest : List ℕ} {v : Vector} → IsFront (VectorFits 4294967295) (array vector_entry) bytes v rest → IsFront IsVectorSpelled (array vector_entry) bytes v rest
front_of_vector {v} f = record { fits = spelled_vector v f.fits; spelled = f.spelled }

-- ---- the root

abbrev HasParts : RootParts → Type 0
HasParts p = (((IsAny p.0.0.0.0 × IsKey p.0.0.0.1) × IsVectorSpelled p.0.0.1) × IsOptional IsRankSpelled p.0.1) × IsListed 3 p.1

abbrev parts_bytes : RootParts → List ℕ
parts_bytes p = constant_bytes root_tag p.0.0.0.0 ++ key_bytes p.0.0.0.1 ++ array vector_entry p.0.0.1 ++ optional rank_bytes p.0.1 ++ listed_bytes p.1

parts_of : (b : RootBlock) → IsRootBlock b → PartsOf HasParts parts_bytes (root_block b)
parts_of b f = record { part = root_parts b; fits = ((((tt, f.view), f.front), f.tide), f.inodes); spelled = refl }

pub no_magic : {b0 : List ℕ} → HasNoFront IsAny (constant_bytes root_tag) b0 → HasNoFront IsRootBlock root_block b0
no_magic absent = none_of_some parts_of (no_first (IsListed 3) listed_bytes (no_first (IsOptional IsRankSpelled) (optional rank_bytes) (no_first IsVectorSpelled (array vector_entry) (no_first IsKey key_bytes absent))))

module _ {b0 b1 : List ℕ} {u : Unit {0}} (f : IsFront IsAny (constant_bytes root_tag) b0 u b1) where
  pub no_view : HasNoFront IsKey key_bytes b1 → HasNoFront IsRootBlock root_block b0
  no_view absent = none_of_some parts_of (no_first (IsListed 3) listed_bytes (no_first (IsOptional IsRankSpelled) (optional rank_bytes) (no_first IsVectorSpelled (array vector_entry) (no_second (one_constant root_tag) f absent))))

  module _ {b2 : List ℕ} {view : Key} (g : IsFront IsKey key_bytes b1 view b2) where
    no_vector : HasNoFront IsVectorSpelled (array vector_entry) b2 → HasNoFront IsRootBlock root_block b0
    no_vector absent = none_of_some parts_of (no_first (IsListed 3) listed_bytes (no_first (IsOptional IsRankSpelled) (optional rank_bytes) (no_second (one_constant root_tag ▷ one_key) (both f g) absent)))

    pub no_front : (fault : BlockFault) → ReadFault 4294967295 b2 fault → RefusesFront IsRootBlock root_block b0 fault
    no_front block.Malformed absent = no_vector (none_of_fewer short_vector absent)
    no_front block.Memory absent = tt

    module _ {b3 : List ℕ} {front : Vector} (h : IsFront IsVectorSpelled (array vector_entry) b2 front b3) where
      pub no_tide_behind : HasNoFront (IsOptional IsRankSpelled) (optional rank_bytes) b3 → HasNoFront IsRootBlock root_block b0
      no_tide_behind absent = none_of_some parts_of (no_first (IsListed 3) listed_bytes (no_second (one_constant root_tag ▷ one_key ▷ one_front) (both (both f g) h) absent))

      module _ {b4 : List ℕ} {tide : Option Rank} (i : IsFront (IsOptional IsRankSpelled) (optional rank_bytes) b3 tide b4) where
        pub no_inodes : HasNoFront (IsListed 3) listed_bytes b4 → HasNoFront IsRootBlock root_block b0
        no_inodes absent = none_of_some parts_of (no_second (one_constant root_tag ▷ one_key ▷ one_front ▷ one_tide) (both (both (both f g) h) i) absent)

        pub root_front : {b5 : List ℕ} {inodes : NamedList} → IsFront (IsListed 3) listed_bytes b4 inodes b5
            → IsFront IsRootBlock root_block b0 (record { view = view; front = front; tide = tide; inodes = inodes }) b5
        root_front j = front_of_parts (λ (p : RootParts). of_root_parts p) (record { view = g.fits; front = h.fits; tide = i.fits; inodes = j.fits }) refl (both (both (both (both f g) h) i) j)
