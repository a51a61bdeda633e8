-- Styles are elements.
use Rattle.std.specs.Prelude.{◌≡◌, ℕ, true, List, ◌++◌, codes}
use Rattle.oxc_handlers.specs.Colors.{IsPlain}
use Rattle.oxc_handlers.specs.Theme.{styled}
use Rattle.oxc_handlers.specs.declared.theme.Style.{Style}
use Rattle.oxc_handlers.specs.declared.theme.Style.TheVariants as style
use Rattle.html_pages.specs.Escaped.{escaped_text}
use Rattle.html_pages.specs.Spans.{closing, opening, spans_text}

-- an element of a class
abbrev pub of_class : List ℕ → List ℕ → List ℕ
of_class class inner = opening class ++ inner ++ closing true

-- the element of a style; what has none is no element
abbrev pub element : Style → List ℕ → List ℕ
element style.Plain inner = inner
element style.Error inner = of_class (codes "error") inner
element style.Warning inner = of_class (codes "warning") inner
element style.Info inner = of_class (codes "info") inner
element style.Link inner = of_class (codes "link") inner
element style.LineNumber inner = of_class (codes "row") inner
element style.Highlight1 inner = of_class (codes "first") inner
element style.Highlight2 inner = of_class (codes "second") inner
element style.Highlight3 inner = of_class (codes "third") inner

-- a text in a style, which itself has no escape sequence
abbrev pub HaveElements : Type 0
HaveElements = (kind : Style) (text : List ℕ) → IsPlain text → spans_text (styled kind text) ≡ element kind (escaped_text text)
