-- What the inner functions ask of their lists and give. Assumes nothing.
use Rattle.refusal.specs.Says.{Counted}
use Rattle.std.specs.Prelude.{List, [], ◌≡◌, ℕ, ◌+◌, ◌-◌, ◌*◌, ◌/◌, ◌%◌, ◌≤◌, ◌<◌, length, get_or}
use Rattle.refusal.specs.Lent.{onto}
use Rattle.lists.specs.Rows.{flat}
use Rattle.text.specs.Decimal.{decimal}
use Rattle.multiindex.specs.Sign.{induced, sign_number}
use Rattle.complex.specs.Cells.{cells_of}
use Rattle.skeleton.specs.Promise.{Ends}
use Rattle.complex_boundary.specs.Promise.{Within}
use Rattle.lists.specs.Tables.{tab}
use Rattle.file_market.specs.File.{line_of_three, signed_of, market_of}
use Rattle.file_market.specs.Promise.{GivesFile}

-- more entries than any operator has, and few enough for their lines to be counted in 32 bits
abbrev pub many_entries : ℕ
many_entries = 100000000

-- f cofaces of dimension k, g faces, and ids with the facets of a coface from the last position dropped to the first
pub record Numbered (k f g : ℕ) (ids : List ℕ) : Type 0 where
  pub low : k < many_entries
  pub entries : f * (k + 1) ≤ many_entries
  pub faces : g ≤ many_entries
  pub long : f * (k + 1) ≤ length ids
  pub below : (y : ℕ) → y < f * (k + 1) → get_or ids y 0 < many_entries

-- the line of entry x, and those of the entries before it
abbrev pub line_at : ℕ → List ℕ → ℕ → List ℕ
line_at k ids x = line_of_three (decimal (get_or ids (x / (k + 1) * (k + 1) + (k - x % (k + 1))) 0 + 1)) (decimal (x / (k + 1) + 1)) (signed_of (sign_number (induced (x % (k + 1)))))

abbrev pub lines_below : ℕ → List ℕ → ℕ → List ℕ
lines_below k ids x = flat (tab x (line_at k ids))

-- the file is handed out, or the byte list is too short for it
pub record FileHanded (file : List ℕ) (r : Counted) (bytes bytes' : List ℕ) : Type 0 where
  pub handed : List ℕ
  pub gives : GivesFile file (length bytes) r handed
  pub result : bytes' ≡ onto handed bytes

-- the same, after 7 and 24
pub record FileWorked (d k : ℕ) (ws : List ℕ) (r : Counted) (bytes bytes' : List ℕ) : Type 0 where
  pub handed : List ℕ
  pub ends : Ends [] d (cells_of d ws) (Within [] ((1 ≤ k) × (k ≤ d)) (GivesFile (market_of d k ws) (length bytes))) r handed
  pub result : bytes' ≡ onto handed bytes
