-- Lines that lie in one page.
use Rattle.std.specs.Prelude.{◌≡◌, ℕ, ◌+◌, ◌-◌, ◌^◌, ◌<◌, ◌≤◌, List, length}
use Rattle.source_location.specs.Breaks.{breaks_of}
use Rattle.text_places.specs.Places.{line_begin, line_end}
use Rattle.text_places.specs.Pages.{bytes_in, TellsText}
use Rattle.text_places.specs.declared.seek.LineInPage.{LineInPage}

-- a line lies in a page: its start, and behind it the beginning and the end of its break
pub record LiesIn (line : LineInPage) : Type 0 where
  pub ordered : line.start ≤ line.limit
  pub break : line.limit < line.next
  pub within : line.next ≤ length (bytes_in line.page.now)
  pub fits : line.page.now.before.bytes + length (bytes_in line.page.now) < 2 ^ 32 - 1

-- a line of a text lies in a page
pub record IsLineInPage (text : List ℕ) (number : ℕ) (line : LineInPage) : Type 0 where
  pub lies : LiesIn line
  pub more : number < length (breaks_of text)
  pub begins : line.page.now.before.bytes + line.start ≡ line_begin text number
  pub ends : line.page.now.before.bytes + line.limit ≡ line_end text number
  pub behind : line.page.now.before.bytes + line.next ≡ line_begin text (number + 1)
  pub tells : TellsText text line.page.now
