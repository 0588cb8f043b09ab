-- A text that is written from its start on. Assumes nothing.
use Rattle.std.specs.Prelude.{ℕ, ◌+◌, ◌-◌, ◌≡◌, List, ◌++◌, length, take, drop, replicate}
use Rattle.text.specs.declared.Text.{Text}

-- the most bytes that a text holds
abbrev pub size : ℕ
size = 128

-- the text that holds these bytes, and zeros past them
unfoldable pub holding : List ℕ → Text
holding l = record { bytes = l ++ replicate (size - length l) 0; len = length l }

-- the bytes bs with x in place of those from n on, as many as x has
abbrev pub written_at : ℕ → List ℕ → List ℕ → List ℕ
written_at n x bs = take n bs ++ (x ++ drop (n + length x) bs)

-- t' is t with the bytes x written from its length on: all other bytes are as they were
pub record Adds (x : List ℕ) (t t' : Text) : Type 0 where
  pub len : t'.len ≡ t.len + length x
  pub bytes : t'.bytes ≡ written_at t.len x t.bytes
