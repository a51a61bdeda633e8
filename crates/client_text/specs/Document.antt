-- A document as contracts see it.
use Rattle.std.specs.Prelude.{◌≡◌, ℕ, ℤ, List}
use Rattle.text_places.specs.declared.encoding.Encoding.{Encoding}
use Rattle.client_text.specs.declared.change.Change.{Change}
use Rattle.client_text.specs.Changes.{AllChange}

-- the encoding of its places, its text and its version
pub record Document : Type 0 where
  pub encoding : Encoding
  pub text : List ℕ
  pub version : ℤ

-- a document after a notification: its changes are made, its version is kept as it was given, and the encoding stays
pub record IsEdited (old : Document) (given : ℤ) (changes : List Change) (new : Document) : Type 0 where
  pub made : AllChange old.encoding old.text changes new.text
  pub version : new.version ≡ given
  pub encoding : new.encoding ≡ old.encoding
