-- The contents of artifacts, one more before the others.
use Rattle.std.proofs.Common.{◌≡◌, ℕ, Bool, true, false, cond, if◌then◌else◌, List, [], ◌∷◌, Option, Some, None, String, string_bytes, refl, sym, ap, ap₂, subst, ◌∙◌}
use Rattle.std.specs.Borrow.{Bor}
use Rattle.std.specs.BTreeMap.{BTreeMap, IsEmpty, Updates, get_by_text}
use Rattle.std.specs.Option.{option_or}
use Rattle.std.specs.Str.{bytes_eq}
use Rattle.std.specs.String.{string_cmp}
use Rattle.std.specs.declared.alloc.Global.{Global}
use Rattle.std.proofs.lemmas.Map.Text.{btree_map_updates_text}
use Rattle.sarif_log.specs.Log.{Artifact, Names}
use Rattle.sarif.specs.Seen.{borrowed}
use Rattle.sarif.specs.Contents.{AreContents}
use Rattle.sarif.specs.Naming.{name_of}
use Rattle.sarif.specs.Texts.{contents_named, is_name}

none_if : (said : Bool) (contents : Option (List ℕ)) → contents ≡ None → (if said then contents else None) ≡ None
none_if true contents none = none
none_if false contents none = refl

-- one without contents
pub bare_before : (names : Names) (it : Artifact) (rest : List Artifact) (by_name : BTreeMap (String Global) (Bor (List ℕ))) → it.contents ≡ None → AreContents names rest by_name
    → AreContents names (it ∷ rest) by_name
unfolding contents_named
bare_before names it rest by_name none are = λ name.
    are name ∙ sym (ap (λ first. option_or first (contents_named names name rest)) (none_if (is_name (name_of names it.location) name) it.contents none))

-- one without a name
pub nameless_before : (names : Names) (it : Artifact) (rest : List Artifact) (by_name : BTreeMap (String Global) (Bor (List ℕ))) → name_of names it.location ≡ None → AreContents names rest by_name
    → AreContents names (it ∷ rest) by_name
unfolding contents_named
nameless_before names it rest by_name none are = λ name.
    are name ∙ sym (ap (λ own. option_or (if is_name own name then it.contents else None) (contents_named names name rest)) none)

-- one with both
first_or_rest : (said : Bool) (text : Bor (List ℕ)) (old : Option (Bor (List ℕ))) (rest : Option (List ℕ)) → borrowed old ≡ rest
    → borrowed (cond said (Some text) old) ≡ option_or (if said then Some text.now else None) rest
first_or_rest true text old rest is = refl
first_or_rest false text old rest is = is

pub contents_before : (names : Names) (it : Artifact) (rest : List Artifact) (old new : BTreeMap (String Global) (Bor (List ℕ))) (key : String Global) (text : Bor (List ℕ))
    → it.contents ≡ Some text.now → name_of names it.location ≡ Some (string_bytes key) → Updates string_cmp old new key (Some text) → AreContents names rest old
    → AreContents names (it ∷ rest) new
unfolding contents_named
contents_before names it rest old new key text contents named updates are = λ name.
    ap borrowed (btree_map_updates_text (string_bytes key) old new (Some text) updates name)
    ∙ first_or_rest (bytes_eq (string_bytes key) name) text (get_by_text old name) (contents_named names name rest) (are name)
    ∙ sym (ap₂ (λ own held. option_or (if is_name own name then held else None) (contents_named names name rest)) named contents)

pub no_contents : (names : Names) (artifacts : List Artifact) (by_name : BTreeMap (String Global) (Bor (List ℕ))) → artifacts ≡ [] → IsEmpty by_name → AreContents names artifacts by_name
unfolding contents_named
no_contents names artifacts by_name none empty = subst (λ those. AreContents names those by_name) (sym none) (λ name. rw empty refl)

pub ruleset contents_rules = (bare_before, nameless_before, contents_before)
