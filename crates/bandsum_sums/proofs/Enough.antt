-- The first 48 bytes tell what is printed for all of them, however many there are. Assumes nothing.
use mathlib.Core.List.{List}
use mathlib.Core.Path.{sym, ◌∙◌}
use Prim.Native.Nat.{ℕ}
use lib.ListN.{take}
use Rattle.text.specs.declared.Text.{Text}
use Rattle.bandsum_line.proofs.Long.{enough}
use Rattle.bandsum_sums.specs.Promise.{Prints, unread, refusal, six, Printed}

prints-enough : (bs l : List ℕ) → Prints (take 48 bs) l → Prints bs l
prints-enough bs l (unread e) = unread (sym (enough bs) ∙ e)
prints-enough bs l (refusal e s) = refusal (sym (enough bs) ∙ e) s
prints-enough bs l (six e s) = six (sym (enough bs) ∙ e) s

pub printed-enough : (bs : List ℕ) (t : Text) → Printed (take 48 bs) t → Printed bs t
printed-enough bs t p = record { lines = p.lines; prints = prints-enough bs p.lines p.prints; holds = p.holds }
