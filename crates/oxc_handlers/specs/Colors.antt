-- A drawn snippet without its escapes.
use Rattle.std.specs.Prelude.{ℕ, ◌==◌, ◌≡◌, Bool, true, false, not, List, [], ◌∷◌, All, Option, if◌then◌else◌, IfSome}
use Rattle.std.specs.List.{list_all}
use Rattle.std.specs.Str.{IsUtf8}
use Rattle.oxc_plan.specs.Plan.{Ordered, SnippetView}
use Rattle.oxc_handlers.specs.Snippet.{drawn_snippet}
use Rattle.oxc_handlers.specs.Theme.{unicode_theme, unicode_nocolor_theme}

-- each ESC up to the next `m` is taken out; `inside` says that an ESC stands before
unfoldable pub unstyled_from : Bool → List ℕ → List ℕ
unstyled_from inside [] = []
unstyled_from false (b ∷ bytes) = if b == 0x1B then unstyled_from true bytes else b ∷ unstyled_from false bytes
unstyled_from true (b ∷ bytes) = if b == 0x6D then unstyled_from false bytes else unstyled_from true bytes

abbrev pub unstyled : List ℕ → List ℕ
unstyled bytes = unstyled_from false bytes

abbrev pub has_no_escape : List ℕ → Bool
has_no_escape bytes = list_all (λ b. not (b == 0x1B)) bytes

abbrev pub IsPlain : List ℕ → Type 0
IsPlain bytes = has_no_escape bytes ≡ true

-- no text of a label, no name and no row holds ESC; rows are texts, as every `&str` is
pub record ArePlain (labels : List Ordered) (name : Option (List ℕ)) (snippet : SnippetView) : Type 0 where
  pub texts : All (λ l. IfSome l.text IsPlain) labels
  pub file : IfSome name IsPlain
  pub rows : All (λ r. IsUtf8 r.row.text × IsPlain r.row.text) snippet.rows

-- the colored drawing without its escapes is the one without colors
abbrev pub DiffersInColorsOnly : ℕ → List Ordered → Option (List ℕ) → SnippetView → Type 0
DiffersInColorsOnly tab labels name snippet =
    ArePlain labels name snippet
    → unstyled (drawn_snippet unicode_theme tab labels name snippet) ≡ drawn_snippet unicode_nocolor_theme tab labels name snippet
