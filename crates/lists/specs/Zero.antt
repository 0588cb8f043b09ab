-- Four lists made zero. Assumes nothing.
use Rattle.std.specs.Prelude.{◌≡◌, List, ℕ, length, replicate}

-- each list with ' has as many zeros as the list before it had numbers
pub record AllZero (keys keys' rows rows' spare spare' counts counts' : List ℕ) : Type 0 where
  pub zero_keys : keys' ≡ replicate (length keys) 0
  pub zero_rows : rows' ≡ replicate (length rows) 0
  pub zero_spare : spare' ≡ replicate (length spare) 0
  pub zero_counts : counts' ≡ replicate (length counts) 0
