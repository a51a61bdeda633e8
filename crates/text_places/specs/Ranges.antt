-- Pages among which one is looked for.
use Rattle.std.specs.Prelude.{◌≡◌, ◌<◌, ◌≤◌, Bool, true, false, List, length, slice_index_or}
use Rattle.text_places.specs.declared.page.Page.{Page}
use Rattle.text_places.specs.declared.seek.Range.{Range}

-- a test passes for the first of them, and fails for the page behind the last
pub record IsAmong (test : Page → Bool) (pages : List Page) (range : Range) : Type 0 where
  pub some : range.low < range.high
  pub within : range.high ≤ length pages
  pub first : (d : Page) → test (slice_index_or pages range.low d) ≡ true
  pub behind : (d : Page) → range.high < length pages → test (slice_index_or pages range.high d) ≡ false
