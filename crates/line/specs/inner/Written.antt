-- What a call that writes into a lent buffer leaves there.
use Rattle.std.specs.Prelude.{ℕ, ◌+◌, ◌≡◌, List, length}
use Rattle.std.proofs.lemmas.List.Edits.{sets}

-- the bytes stand in the buffer from a place on, no other byte is changed, and the answer is the place after them
pub record Wrote (bytes : List ℕ) (at : ℕ) (out : List ℕ) (r : ℕ) (out' : List ℕ) : Type 0 where
  pub end : r ≡ at + length bytes
  pub buffer : out' ≡ sets out at bytes
