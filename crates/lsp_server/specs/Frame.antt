-- What each byte of a frame means. A head is lines of a name, a colon and a value, each ended by CR LF, and an empty line;
-- one of them has the name Content-Length, in any case, and its value is spaces and digits.
use Rattle.std.specs.Prelude.{ℕ, ◌+◌, ◌-◌, ◌*◌, ◌==◌, nat_lt, nat_le, Option, Some, None, slice_index, if◌then◌else◌}
use Rattle.std.specs.Char.{to_ascii_lowercase}
use Rattle.lsp_server.specs.declared.head.Place.{Place}
use Rattle.lsp_server.specs.declared.head.Place.TheVariants.{Line, Name, Other, Value, LineEnd, Spaces, Digits, HeadEnd}
use Rattle.lsp_server.specs.declared.head.Head.{Head}
use Rattle.lsp_server.specs.declared.head.Why.TheVariants.{NoFrame, LongHead, LongBody}
use Rattle.lsp_server.specs.declared.head.Step.{Step}
use Rattle.lsp_server.specs.declared.head.Step.TheVariants.{On, Begins, Fault}
use Rattle.lsp_server.specs.declared.head.TheConstants.{NAME}

abbrev pub on : Place → Option ℕ → ℕ → Step
on place length count = On (record { place = place; length = length; count = count })

-- behind `matched` of the 14 bytes of the name, one more
abbrev pub name_place : ℕ → ℕ → Place
name_place matched b =
    if nat_lt matched 14 then (if slice_index NAME matched == to_ascii_lowercase b then Name (matched + 1) else Other)
    else Other

-- the length is told once
abbrev pub first_time : Option ℕ → ℕ → Step
first_time None count = on Spaces None count
first_time (Some n) count = Fault NoFrame

-- a colon behind a name
abbrev pub colon_step : ℕ → Option ℕ → ℕ → Step
colon_step matched length count = if matched == 14 then first_time length count else on Value length count

-- a digit more of the length; 0 is 48 and 9 is 57
abbrev pub digit_step : ℕ → Option ℕ → ℕ → ℕ → Step
digit_step number length count b =
    if nat_lt b 48 then Fault NoFrame
    else if nat_lt 57 b then Fault NoFrame
    else if nat_lt 8388608 (number * 10 + (b - 48)) then Fault LongBody
    else on (Digits (number * 10 + (b - 48))) length count

-- the empty line stands behind a length
abbrev pub empty_line : Option ℕ → ℕ → Step
empty_line None count = Fault NoFrame
empty_line (Some n) count = on (HeadEnd n) (Some n) count

-- a byte of a name, which no CR or LF ends
abbrev pub name_step : Place → Option ℕ → ℕ → ℕ → Step
name_step next length count b =
    if b == 10 then Fault NoFrame else if b == 13 then Fault NoFrame else on next length count

-- what a byte means at each place: a colon is 58, a space 32, CR 13 and LF 10
abbrev pub place_step : Place → Option ℕ → ℕ → ℕ → Step
place_step Line length count b =
    if b == 13 then empty_line length count
    else if b == 10 then Fault NoFrame
    else if b == 58 then Fault NoFrame
    else on (name_place 0 b) length count
place_step (Name k) length count b = if b == 58 then colon_step k length count else name_step (name_place k b) length count b
place_step Other length count b = if b == 58 then on Value length count else name_step Other length count b
place_step Value length count b =
    if b == 13 then on LineEnd length count else if b == 10 then Fault NoFrame else on Value length count
place_step LineEnd length count b = if b == 10 then on Line length count else Fault NoFrame
place_step Spaces length count b = if b == 32 then on Spaces length count else digit_step 0 length count b
place_step (Digits n) length count b = if b == 13 then on LineEnd (Some n) count else digit_step n length count b
place_step (HeadEnd n) length count b = if b == 10 then Begins n else Fault NoFrame

-- a head has at most 4,096 bytes
unfoldable pub head_step : Head → ℕ → Step
head_step h b = if nat_le 4096 h.count then Fault LongHead else place_step h.place h.length (h.count + 1) b
