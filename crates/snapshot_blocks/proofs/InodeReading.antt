-- Where an inode's block can't be read.
use Rattle.std.proofs.Common.{ℕ, List, ◌++◌, refl, arith}
use Rattle.ivy_base.specs.declared.key.Key.{Key}
use Rattle.ivy_base.specs.declared.operation.Kind.{Kind}
use Rattle.tree_model.specs.Tree.{Attributes, longest_file}
use Rattle.wire_model.specs.Xdr.{double_word, opaque, IsAny, IsUpTo}
use Rattle.wire_model.specs.OneReading.{ReadsOne, IsFront, HasNoFront}
use Rattle.wire_model.proofs.OneReading.{◌▷◌, one_short_opaque}
use Rattle.wire_model.proofs.Fronts.{both, no_first, no_second, front_of_parts}
use Rattle.wire_model.proofs.Dependent.{PartsOf, none_of_some}
use Rattle.log_model.specs.Spelling.{IsKey}
use Rattle.snapshot_model.specs.Blocks.{NamedList, InodeBlock, inode_block, attributes_bytes, listed_bytes, AreAttributes, IsListed, inode_tag}
use Rattle.block_parts.specs.Parts.{constant_bytes, key_bytes, kind_word, IsAtMost}
use Rattle.snapshot_model.specs.Parts.{HasInodeParts}
use Rattle.block_parts.proofs.OneParts.{one_key, one_kind, one_size}
use Rattle.snapshot_model.proofs.OneBlock.{InodeParts, inode_parts, of_inode_parts, one_attributes}
use Rattle.block_parts.proofs.Constants.{one_constant}

-- the tag, the number and the kind
abbrev Three : Type 0
Three = (Unit {0} × Key) × Kind

abbrev IsThree : Three → Type 0
IsThree p = (IsAny p.0.0 × IsKey p.0.1) × IsAny p.1

abbrev three : Three → List ℕ
three p = constant_bytes inode_tag p.0.0 ++ key_bytes p.0.1 ++ kind_word p.1

one_three : ReadsOne IsThree three
one_three = one_constant inode_tag ▷ one_key ▷ one_kind

abbrev HasParts : InodeParts → Type 0
HasParts p = (((IsThree p.0.0.0.0 × AreAttributes p.0.0.0.1) × IsAtMost longest_file p.0.0.1) × IsUpTo 1024 p.0.1) × IsListed 3 p.1

abbrev parts_bytes : InodeParts → List ℕ
parts_bytes p = three p.0.0.0.0 ++ attributes_bytes p.0.0.0.1 ++ double_word p.0.0.1 ++ opaque p.0.1 ++ listed_bytes p.1

parts_of : (b : InodeBlock) → HasInodeParts b → PartsOf HasParts parts_bytes (inode_block b)
parts_of b f = record { part = inode_parts b; fits = f; spelled = refl }

without_three : {bytes : List ℕ} → HasNoFront IsThree three bytes → HasNoFront HasInodeParts inode_block bytes
without_three absent = none_of_some parts_of (no_first (IsListed 3) listed_bytes (no_first (IsUpTo 1024) opaque (no_first (IsAtMost longest_file) double_word (no_first AreAttributes attributes_bytes absent))))

one_target : ReadsOne (IsUpTo 1024) opaque
one_target = one_short_opaque 1024 (omega arith)

pub no_magic : {b0 : List ℕ} → HasNoFront IsAny (constant_bytes inode_tag) b0 → HasNoFront HasInodeParts inode_block b0
no_magic absent = without_three (no_first IsAny kind_word (no_first IsKey key_bytes absent))

module _ {b0 b1 : List ℕ} {u : Unit {0}} (f : IsFront IsAny (constant_bytes inode_tag) b0 u b1) where
  pub no_number : HasNoFront IsKey key_bytes b1 → HasNoFront HasInodeParts inode_block b0
  no_number absent = without_three (no_first IsAny kind_word (no_second (one_constant inode_tag) f absent))

  module _ {b2 : List ℕ} {number : Key} (g : IsFront IsKey key_bytes b1 number b2) where
    pub no_kind : HasNoFront IsAny kind_word b2 → HasNoFront HasInodeParts inode_block b0
    no_kind absent = without_three (no_second (one_constant inode_tag ▷ one_key) (both f g) absent)

    module _ {b3 : List ℕ} {kind : Kind} (h : IsFront IsAny kind_word b2 kind b3) where
      front_three : IsFront IsThree three b0 ((u, number), kind) b3
      front_three = both (both f g) h

      pub no_attributes : HasNoFront AreAttributes attributes_bytes b3 → HasNoFront HasInodeParts inode_block b0
      no_attributes absent = none_of_some parts_of (no_first (IsListed 3) listed_bytes (no_first (IsUpTo 1024) opaque (no_first (IsAtMost longest_file) double_word (no_second one_three front_three absent))))

      module _ {b4 : List ℕ} {attributes : Attributes} (i : IsFront AreAttributes attributes_bytes b3 attributes b4) where
        pub no_size : HasNoFront (IsAtMost longest_file) double_word b4 → HasNoFront HasInodeParts inode_block b0
        no_size absent = none_of_some parts_of (no_first (IsListed 3) listed_bytes (no_first (IsUpTo 1024) opaque (no_second (one_three ▷ one_attributes) (both front_three i) absent)))

        module _ {b5 : List ℕ} {size : ℕ} (j : IsFront (IsAtMost longest_file) double_word b4 size b5) where
          pub no_target : HasNoFront (IsUpTo 1024) opaque b5 → HasNoFront HasInodeParts inode_block b0
          no_target absent = none_of_some parts_of (no_first (IsListed 3) listed_bytes (no_second (one_three ▷ one_attributes ▷ one_size) (both (both front_three i) j) absent))

          module _ {b6 target : List ℕ} (k : IsFront (IsUpTo 1024) opaque b5 target b6) where
            pub no_items : HasNoFront (IsListed 3) listed_bytes b6 → HasNoFront HasInodeParts inode_block b0
            no_items absent = none_of_some parts_of (no_second (one_three ▷ one_attributes ▷ one_size ▷ one_target) (both (both (both front_three i) j) k) absent)

            pub inode_front : {b7 : List ℕ} {items : NamedList} → IsFront (IsListed 3) listed_bytes b6 items b7
                → IsFront HasInodeParts inode_block b0 (record { number = number; kind = kind; attributes = attributes; size = size; target = target; items = items }) b7
            inode_front l = front_of_parts (λ (p : InodeParts). of_inode_parts p) ((((((tt, g.fits), tt), i.fits), j.fits), k.fits), l.fits) refl (both (both (both (both front_three i) j) k) l)
