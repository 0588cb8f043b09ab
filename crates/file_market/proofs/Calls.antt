-- Over what a call hands out, and how long a file is. Assumes nothing.
use Rattle.refusal.specs.declared.Refusal.{Refusal}
use Rattle.refusal.specs.Says.{Counted}
use Rattle.std.specs.Prelude.{Err, Ok}
use mathlib.Core.List.{List, [], ◌∷◌, ◌++◌}
use mathlib.Core.Path.{◌≡◌, refl, ap, ◌∙◌}
use Prim.Native.Nat.{ℕ, ◌+◌, ◌*◌, ◌≤◌}
use native.Mathlib.Omega.{arith}
use lib.ListN.{length, take, drop, length-append}
use lib.Seq.{take_at}
use Rattle.refusal.specs.declared.Room.{Room}
use Rattle.refusal.specs.Call.{Comes, refused, cramped, ended}
use Rattle.refusal.specs.Lent.{onto}
use Rattle.text.specs.Decimal.{decimal}
use Rattle.text.proofs.Decimals.{decimal-long}
use Rattle.complex.specs.Check.{answer_of}
use Rattle.complex.specs.Cells.{cells_of}
use Rattle.skeleton.specs.Promise.{Ends, crowded, rest}
use Rattle.complex_faces.specs.Entries.{Entry}
use Rattle.complex_boundary.specs.Promise.{Within, outside, inside}
use Rattle.file_market.specs.File.{head_word, line_of_three, signed_of, entry_line, entry_lines, matrix_file, market_of}
use Rattle.file_market.specs.Promise.{GivesFile, short, written, Marketed}
use Rattle.file_market.proofs.Listing.{signed-long, line-long, sizes-long}

-- ---- a call that says a count has handed out the file, and the count is its bytes
clash : {A : Type 0} {why : Refusal} {n : ℕ} → ◌≡◌ {A = Counted} (Err why) (Ok n) → A
clash e = cc

counted : (d : ℕ) (ws : List ℕ) (need have : Room) (There : Type 0) (file : List ℕ) (given : ℕ) (r : Counted) (h : List ℕ) (used : Room) → Comes Err [] (answer_of d ws) need have (Ends [] d (cells_of d ws) (Within [] There (GivesFile file given))) r h used → (n : ℕ) → r ≡ Ok n → (h ≡ file) × (length file ≡ n)
counted d ws need have There file given r h used (refused e) n q = clash q
counted d ws need have There file given r h used (cramped e f) n q = clash q
counted d ws need have There file given r h used (ended e f (crowded x)) n q = clash q
counted d ws need have There file given r h used (ended e f (rest x (outside y))) n q = clash q
counted d ws need have There file given r h used (ended e f (rest x (inside y (short z)))) n q = clash q
counted d ws need have There file given r h used (ended e f (rest x (inside y (written z)))) n q = (refl, same q)
  where
    same : ◌≡◌ {A = Counted} (Ok (length file)) (Ok n) → length file ≡ n
    same q = cc

pub market-said : (d k : ℕ) (ws : List ℕ) (n : ℕ) (bytes bytes' keys keys' rows rows' spare spare' counts counts' : List ℕ) → Marketed d k ws (Ok n) bytes bytes' keys keys' rows rows' spare spare' counts counts' → take n bytes' ≡ market_of d k ws
market-said d k ws n bytes bytes' keys keys' rows rows' spare spare' counts counts' a =
    let w = counted d ws _ _ ((1 ≤ k) × (k ≤ d)) (market_of d k ws) (length bytes) (Ok n) a.handed a.call.used a.call.comes n refl in
    ap (take n) (a.result ∙ ap (λ (l : List ℕ). onto l bytes) w.0) ∙ take_at (market_of d k ws) (drop (length (market_of d k ws)) bytes) n w.1

-- ---- how many bytes are enough
lines-most : (es : List Entry) → length (entry_lines es) ≤ 34 * length es
lines-most [] = omega arith
lines-most (e ∷ es) =
    omega (
      arith,
      length-append (entry_line e) (entry_lines es),
      line-long (decimal (e.face + 1)) (decimal (e.coface + 1)) (signed_of e.sign) (decimal-long 9 (e.face + 1)) (decimal-long 9 (e.coface + 1)) (signed-long e.sign),
      lines-most es,
    )

pub file-long : (rows columns : ℕ) (es : List Entry) → length (matrix_file rows columns es) ≤ 83 + 34 * length es
unfolding matrix_file
file-long rows columns es =
    omega (
      arith,
      length-append head_word (line_of_three (decimal rows) (decimal columns) (decimal (length es)) ++ entry_lines es),
      length-append (line_of_three (decimal rows) (decimal columns) (decimal (length es))) (entry_lines es),
      sizes-long rows columns (length es),
      lines-most es,
    )
