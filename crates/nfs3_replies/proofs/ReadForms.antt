-- Results after status 0 are read part by part.
use Rattle.std.proofs.Common.{ℕ, ◌^◌, List, [], ◌∷◌, ◌++◌, Option, Some, None, refl, ◌∙◌, arith, append_assoc}
use Rattle.wire_model.specs.Xdr.{word, double_word, opaque, optional, IsAny, IsUpTo}
use Rattle.wire_model.specs.OneReading.{ReadsOne, IsFront, HasNoFront}
use Rattle.wire_model.proofs.OneReading.{◌▷◌, one_word, one_boolean}
use Rattle.nfs_model.specs.declared.replies.Fattr.{Fattr}
use Rattle.nfs_model.specs.declared.replies.Wcc.{Wcc}
use Rattle.nfs_model.specs.declared.replies.Reply.{Reply}
use Rattle.nfs_model.specs.declared.replies.Reply.TheVariants as reply
use Rattle.nfs_model.specs.Arguments.{IsHandle}
use Rattle.nfs_model.specs.Results.{fattr, wcc, many, write_verifier}
use Rattle.nfs_model.specs.Replies.{IsFattr, IsWcc, IsText}
use Rattle.nfs_model.proofs.OneArguments.{one_handle}
use Rattle.nfs_model.proofs.OneReplies.{one_wcc, one_post_attributes, one_text}
use Rattle.wire_model.specs.Parts.{Told, Reads, IsOptional}
use Rattle.nfs3_replies.specs.ReadParts.{constant, AreAttributesAndCache, attributes_and_cache, AreTwoCaches, two_caches, given_handle, Found, IsFound, found, IsAllowedParts, allowed_parts, IsLinkText, link_text, Content, IsContent, content, IsWrittenParts, written_parts, IsCommittedParts, committed_parts, IsNumbered, numbered, IsDone, after_status}
use Rattle.wire_model.proofs.PartByPart.{Read}
use Rattle.wire_model.proofs.Made.{MadeOf, Made, one_made}
use Rattle.nfs3_replies.proofs.ReadConstants.{one_constant}
use Rattle.tree_model.specs.Tree.{longest_file}

-- ---- parts

pub one_attributes_and_cache : ReadsOne AreAttributesAndCache attributes_and_cache
one_attributes_and_cache = one_post_attributes ▷ one_wcc

pub one_two_caches : ReadsOne AreTwoCaches two_caches
one_two_caches = one_wcc ▷ one_wcc

pub made_given : Made {A = Unit {0} × List ℕ} (λ p. IsAny p.0 × IsHandle p.1) (λ p. constant (1 ∷ []) p.0 ++ opaque p.1) IsHandle given_handle (λ p. p.1)
made_given = record { whole = λ p f. f.1; spelled = λ p. refl; parts = λ h f. record { part = (tt, h); fits = (tt, f); same = refl } }

pub one_given_handle : ReadsOne IsHandle given_handle
one_given_handle = one_made made_given (one_constant (1 ∷ []) ▷ one_handle)

pub one_found : ReadsOne IsFound found
one_found = one_handle ▷ one_post_attributes ▷ one_post_attributes

pub one_allowed : ReadsOne IsAllowedParts allowed_parts
one_allowed = one_post_attributes ▷ one_word

pub one_link_text : ReadsOne IsLinkText link_text
one_link_text = one_post_attributes ▷ one_text

pub one_content : ReadsOne IsContent content
one_content = one_post_attributes ▷ one_word ▷ one_boolean ▷ one_text

pub one_written : ReadsOne IsWrittenParts written_parts
one_written = one_wcc ▷ one_word ▷ one_constant (2 ∷ 1230395734 ∷ 1163019825 ∷ [])

pub one_committed : ReadsOne IsCommittedParts committed_parts
one_committed = one_wcc ▷ one_constant (1230395734 ∷ 1163019825 ∷ [])

abbrev ObjectParts : Type 0
ObjectParts = (List ℕ × Option Fattr) × Wcc

abbrev AreObjectParts : ObjectParts → Type 0
AreObjectParts p = (IsHandle p.0.0 × IsOptional IsFattr p.0.1) × IsWcc p.1

abbrev object_bytes : ObjectParts → List ℕ
object_bytes p = given_handle p.0.0 ++ optional fattr p.0.1 ++ wcc p.1

pub one_made_object : ReadsOne AreObjectParts object_bytes
one_made_object = one_given_handle ▷ one_post_attributes ▷ one_wcc

pub one_numbered : (numbers : List ℕ) → ReadsOne IsNumbered (numbered numbers)
one_numbered numbers = one_post_attributes ▷ one_constant numbers

-- a text's length is any word
pub long_text : {b : List ℕ} → HasNoFront (IsUpTo 4294967295) opaque b → HasNoFront IsText opaque b
long_text absent = record { none = λ x rest f. absent.none x rest (record { fits = omega (arith, f.fits); spelled = f.spelled }) }

pub text_front : {b rest text : List ℕ} → IsFront (IsUpTo 4294967295) opaque b text rest → IsFront IsText opaque b text rest
text_front f = record { fits = omega (arith, f.fits); spelled = f.spelled }

pub text_read : {a b : Option (List ℕ)} {x : List ℕ} → Reads (IsUpTo 4294967295) opaque a x b → Read IsText opaque a x b
text_read {a} {b} {x} f = record { one = one_text; reads = record { told = cases a b f.told } }
  where
    cases : (a b : Option (List ℕ)) → Told (IsUpTo 4294967295) opaque a x b → Told IsText opaque a x b
    cases None b p = p
    cases (Some a) None p = long_text p
    cases (Some a) (Some b) p = text_front p

-- ---- results of each form

attributes_parts : (r : Reply) → IsDone 1 r → MadeOf IsFattr reply.Attributes r
attributes_parts (reply.Attributes object) f = record { part = object; fits = f.1; same = refl }
attributes_parts r f = absurd (omega (arith, f.0))

pub made_attributes : Made IsFattr fattr (IsDone 1) after_status reply.Attributes
made_attributes = record { whole = λ a f. (refl, f); spelled = λ a. refl; parts = attributes_parts }

changed_parts : (r : Reply) → IsDone 2 r → MadeOf IsWcc reply.Changed r
changed_parts (reply.Changed cache) f = record { part = cache; fits = f.1; same = refl }
changed_parts r f = absurd (omega (arith, f.0))

pub made_changed : Made IsWcc wcc (IsDone 2) after_status reply.Changed
made_changed = record { whole = λ a f. (refl, f); spelled = λ a. refl; parts = changed_parts }

abbrev found_with : Found → Reply
found_with p = reply.Found p.0.0 p.0.1 p.1

found_parts : (r : Reply) → IsDone 3 r → MadeOf IsFound found_with r
found_parts (reply.Found handle object dir) f = record { part = ((handle, object), dir); fits = ((f.1.0, f.1.1), f.1.2); same = refl }
found_parts r f = absurd (omega (arith, f.0))

pub made_found : Made IsFound found (IsDone 3) after_status found_with
made_found = record { whole = λ p f. (refl, (f.0.0, f.0.1, f.1)); spelled = λ p. refl; parts = found_parts }

abbrev allowed_with : Option Fattr × ℕ → Reply
allowed_with p = reply.Allowed p.0 p.1

allowed_of : (r : Reply) → IsDone 4 r → MadeOf IsAllowedParts allowed_with r
allowed_of (reply.Allowed object bits) f = record { part = (object, bits); fits = f.1; same = refl }
allowed_of r f = absurd (omega (arith, f.0))

pub made_allowed : Made IsAllowedParts allowed_parts (IsDone 4) after_status allowed_with
made_allowed = record { whole = λ p f. (refl, f); spelled = λ p. refl; parts = allowed_of }

abbrev text_with : Option Fattr × List ℕ → Reply
text_with p = reply.Text p.0 p.1

text_parts : (r : Reply) → IsDone 5 r → MadeOf IsLinkText text_with r
text_parts (reply.Text link text) f = record { part = (link, text); fits = f.1; same = refl }
text_parts r f = absurd (omega (arith, f.0))

pub made_text : Made IsLinkText link_text (IsDone 5) after_status text_with
made_text = record { whole = λ p f. (refl, f); spelled = λ p. refl; parts = text_parts }

abbrev content_with : Content → Reply
content_with p = reply.Bytes p.0.0.0 p.0.0.1 p.0.1 p.1

content_parts : (r : Reply) → IsDone 6 r → MadeOf IsContent content_with r
content_parts (reply.Bytes file count eof bytes) f = record { part = (((file, count), eof), bytes); fits = (((f.1.0, f.1.1), tt), f.1.2); same = refl }
content_parts r f = absurd (omega (arith, f.0))

pub made_content : Made IsContent content (IsDone 6) after_status content_with
made_content = record { whole = λ p f. (refl, (f.0.0.0, f.0.0.1, f.1)); spelled = λ p. refl; parts = content_parts }

abbrev written_with : (Wcc × ℕ) × Unit {0} → Reply
written_with p = reply.Written p.0.0 p.0.1

written_of : (r : Reply) → IsDone 7 r → MadeOf IsWrittenParts written_with r
written_of (reply.Written cache count) f = record { part = ((cache, count), tt); fits = ((f.1.0, f.1.1), tt); same = refl }
written_of r f = absurd (omega (arith, f.0))

pub made_written : Made IsWrittenParts written_parts (IsDone 7) after_status written_with
made_written = record {
  whole = λ p f. (refl, f.0);
  spelled = λ p. append_assoc (wcc p.0.0 ++ word p.0.1) (word 2) write_verifier;
  parts = written_of;
}

abbrev object_with : ObjectParts → Reply
object_with p = reply.Made p.0.0 p.0.1 p.1

object_parts : (r : Reply) → IsDone 8 r → MadeOf AreObjectParts object_with r
object_parts (reply.Made handle object cache) f = record { part = ((handle, object), cache); fits = ((f.1.0, f.1.1), f.1.2); same = refl }
object_parts r f = absurd (omega (arith, f.0))

pub made_object : Made AreObjectParts object_bytes (IsDone 8) after_status object_with
made_object = record { whole = λ p f. (refl, (f.0.0, f.0.1, f.1)); spelled = λ p. refl; parts = object_parts }

abbrev renamed_with : Wcc × Wcc → Reply
renamed_with p = reply.Renamed p.0 p.1

renamed_parts : (r : Reply) → IsDone 14 r → MadeOf AreTwoCaches renamed_with r
renamed_parts (reply.Renamed from to) f = record { part = (from, to); fits = f.1; same = refl }
renamed_parts r f = absurd (omega (arith, f.0))

pub made_renamed : Made AreTwoCaches two_caches (IsDone 14) after_status renamed_with
made_renamed = record { whole = λ p f. (refl, f); spelled = λ p. refl; parts = renamed_parts }

abbrev linked_with : Option Fattr × Wcc → Reply
linked_with p = reply.Linked p.0 p.1

linked_parts : (r : Reply) → IsDone 15 r → MadeOf AreAttributesAndCache linked_with r
linked_parts (reply.Linked file cache) f = record { part = (file, cache); fits = f.1; same = refl }
linked_parts r f = absurd (omega (arith, f.0))

pub made_linked : Made AreAttributesAndCache attributes_and_cache (IsDone 15) after_status linked_with
made_linked = record { whole = λ p f. (refl, f); spelled = λ p. refl; parts = linked_parts }

abbrev pub space_words : List ℕ
space_words = 256 ∷ 0 ∷ 256 ∷ 0 ∷ 256 ∷ 0 ∷ 1 ∷ 0 ∷ 1 ∷ 0 ∷ 1 ∷ 0 ∷ 0 ∷ []

abbrev space_with : Option Fattr × Unit {0} → Reply
space_with p = reply.Space p.0

space_parts : (r : Reply) → IsDone 18 r → MadeOf IsNumbered space_with r
space_parts (reply.Space object) f = record { part = (object, tt); fits = (f.1, tt); same = refl }
space_parts r f = absurd (omega (arith, f.0))

pub made_space : Made IsNumbered (numbered space_words) (IsDone 18) after_status space_with
made_space = record {
  whole = λ p f. (refl, f.0);
  spelled = λ p. append_assoc (optional fattr p.0) (many double_word (2 ^ 40 ∷ 2 ^ 40 ∷ 2 ^ 40 ∷ 2 ^ 32 ∷ 2 ^ 32 ∷ 2 ^ 32 ∷ [])) (word 0);
  parts = space_parts;
}

abbrev pub limits_words : List ℕ
limits_words = 8192 ∷ 8192 ∷ 512 ∷ 8192 ∷ 8192 ∷ 512 ∷ 8192 ∷ 0 ∷ longest_file ∷ 0 ∷ 1 ∷ 27 ∷ []

abbrev limits_with : Option Fattr × Unit {0} → Reply
limits_with p = reply.Limits p.0

limits_parts : (r : Reply) → IsDone 19 r → MadeOf IsNumbered limits_with r
limits_parts (reply.Limits object) f = record { part = (object, tt); fits = (f.1, tt); same = refl }
limits_parts r f = absurd (omega (arith, f.0))

abbrev sizes : List ℕ
sizes = many word (8192 ∷ 8192 ∷ 512 ∷ 8192 ∷ 8192 ∷ 512 ∷ 8192 ∷ [])

abbrev properties : List ℕ
properties = many word (0 ∷ 1 ∷ 27 ∷ [])

pub made_limits : Made IsNumbered (numbered limits_words) (IsDone 19) after_status limits_with
made_limits = record {
  whole = λ p f. (refl, f.0);
  spelled = λ p. append_assoc (optional fattr p.0 ++ sizes) (double_word longest_file) properties ∙ append_assoc (optional fattr p.0) sizes (double_word longest_file ++ properties);
  parts = limits_parts;
}

abbrev pub paths_words : List ℕ
paths_words = 1000 ∷ 255 ∷ 1 ∷ 1 ∷ 0 ∷ 1 ∷ []

abbrev paths_with : Option Fattr × Unit {0} → Reply
paths_with p = reply.Paths p.0

paths_parts : (r : Reply) → IsDone 20 r → MadeOf IsNumbered paths_with r
paths_parts (reply.Paths object) f = record { part = (object, tt); fits = (f.1, tt); same = refl }
paths_parts r f = absurd (omega (arith, f.0))

pub made_paths : Made IsNumbered (numbered paths_words) (IsDone 20) after_status paths_with
made_paths = record { whole = λ p f. (refl, f.0); spelled = λ p. refl; parts = paths_parts }

abbrev committed_with : Wcc × Unit {0} → Reply
committed_with p = reply.Committed p.0

committed_of : (r : Reply) → IsDone 21 r → MadeOf IsCommittedParts committed_with r
committed_of (reply.Committed cache) f = record { part = (cache, tt); fits = (f.1, tt); same = refl }
committed_of r f = absurd (omega (arith, f.0))

pub made_committed : Made IsCommittedParts committed_parts (IsDone 21) after_status committed_with
made_committed = record { whole = λ p f. (refl, f.0); spelled = λ p. refl; parts = committed_of }
