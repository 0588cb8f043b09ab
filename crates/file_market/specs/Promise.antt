-- What the call `matrix_market` comes to, on every input. Assumes nothing.
use Rattle.refusal.specs.declared.Refusal.TheVariants.{TooShort}
use Rattle.refusal.specs.Says.{Counted}
use Rattle.std.specs.Prelude.{Err, Ok}
use Rattle.std.specs.Prelude.{List, [], ◌≡◌, ℕ, ◌<◌, ◌≤◌, length}
use Rattle.refusal.specs.Lent.{onto}
use Rattle.skeleton.specs.Promise.{Call}
use Rattle.complex_boundary.specs.Need.{face_need}
use Rattle.complex_boundary.specs.Promise.{Within}
use Rattle.file_market.specs.File.{market_of}

-- the file is handed out, or 12. `given` is the length of the byte list.
pub data GivesFile (file : List ℕ) (given : ℕ) : Counted → List ℕ → Type 0 where
  short : given < length file → GivesFile file given (Err TooShort) []
  written : length file ≤ given → GivesFile file given (Ok (length file)) file

-- the promise: r is what the call says, and a list with ' is what it holds at exit
pub record Marketed (d k : ℕ) (ws : List ℕ) (r : Counted) (bytes bytes' keys keys' rows rows' spare spare' counts counts' : List ℕ) : Type 0 where
  pub handed : List ℕ
  pub call : Call [] (face_need d (length ws)) (Within [] ((1 ≤ k) × (k ≤ d)) (GivesFile (market_of d k ws) (length bytes))) d ws r handed keys keys' rows rows' spare spare' counts counts'
  pub result : bytes' ≡ onto handed bytes
