-- What a store answers, and what it tells.
use Rattle.std.specs.Prelude.{◌≡◌, ⊤, Option, Some, None, string_bytes}
use Rattle.found_reports.specs.Held.{Held, holds, lacks}
use Rattle.source_store.specs.declared.fetched.Fetched.{Fetched}
use Rattle.source_store.specs.declared.fetched.Fetched.TheVariants.{Text, Lacking, OutOfMemory}

-- an answer is what is held; want of memory is free
abbrev pub IsAnswer : Held → Fetched → Type 0
IsAnswer held OutOfMemory = ⊤
IsAnswer (holds text) (Text answer) = string_bytes answer ≡ text
IsAnswer (holds text) (Lacking why) = ⊥
IsAnswer (lacks why) (Text answer) = ⊥
IsAnswer (lacks why) (Lacking answer) = answer ≡ why

-- an answer is what was told, where something was
abbrev pub IsTold : Option Held → Fetched → Type 0
IsTold None answer = ⊤
IsTold (Some held) answer = IsAnswer held answer
