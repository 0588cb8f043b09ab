-- The promise determines what is said and every list: two calls on equal inputs end alike. Assumes nothing.
use Rattle.refusal.specs.Says.{Counted}
use mathlib.Core.List.{List, []}
use mathlib.Core.Path.{◌≡◌, refl, sym, ap, ◌∙◌}
use Prim.Native.Nat.{ℕ, ◌≤◌}
use native.Mathlib.Omega.{arith}
use lib.ListN.{length}
use Rattle.refusal.specs.Lent.{onto}
use Rattle.skeleton.proofs.Determined.{call-one}
use Rattle.complex_boundary.specs.Need.{face_need}
use Rattle.complex_boundary.specs.Promise.{Within}
use Rattle.complex_boundary.proofs.Determined.{within-one}
use Rattle.file_market.specs.File.{market_of}
use Rattle.file_market.specs.Promise.{GivesFile, short, written, Marketed}

file-one : (file : List ℕ) (given : ℕ) (r r' : Counted) (l l' : List ℕ) → GivesFile file given r l → GivesFile file given r' l' → (r ≡ r') × (l ≡ l')
file-one file given r r' l l' (short h) (short k) = (refl, refl)
file-one file given r r' l l' (short h) (written k) = absurd (omega arith)
file-one file given r r' l l' (written h) (short k) = absurd (omega arith)
file-one file given r r' l l' (written h) (written k) = (refl, refl)

pub market-one : (d e : ℕ) (ws : List ℕ) (r r' : Counted) (bytes s s' keys k k' rows o o' spare p p' counts c c' : List ℕ) → Marketed d e ws r bytes s keys k rows o spare p counts c → Marketed d e ws r' bytes s' keys k' rows o' spare p' counts c' →
    (r ≡ r') × (s ≡ s') × ((k ≡ k') × (o ≡ o') × (p ≡ p') × (c ≡ c'))
market-one d e ws r r' bytes s s' keys k k' rows o o' spare p p' counts c c' a b =
    let w = call-one [] d (Within [] ((1 ≤ e) × (e ≤ d)) (GivesFile (market_of d e ws) (length bytes))) (within-one [] ((1 ≤ e) × (e ≤ d)) (GivesFile (market_of d e ws) (length bytes)) (file-one (market_of d e ws) (length bytes))) (face_need d (length ws)) ws r r' a.handed b.handed keys k k' rows o o' spare p p' counts c c' a.call b.call in
    (w.0, a.result ∙ ap (λ (l : List ℕ). onto l bytes) w.1 ∙ sym b.result, w.2)
