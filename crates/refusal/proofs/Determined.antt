-- Where the ways to end determine what is said and handed out, the call does: two exits of one call agree in everything. Assumes nothing.
use mathlib.Core.List.{List}
use mathlib.Core.Path.{◌≡◌, refl, sym, ap, ◌∙◌}
use Prim.Native.Nat.{ℕ}
use Rattle.refusal.specs.declared.Refusal.{Refusal}
use Rattle.refusal.specs.Says.{Answer}
use Rattle.refusal.specs.declared.Room.{Room}
use Rattle.refusal.specs.Lent.{zeroed, untouched, Roomy, Cleared}
use Rattle.refusal.specs.Call.{Call, Comes, refused, cramped, ended}
use Rattle.refusal.proofs.Chain.{fine-refused, refused-same}

module _ {S H K : Type 0} (no : Refusal → S) (nothing : H) (unused : K) (checked : Answer) (need : K) (Fits : Type 0) (Ends : S → H → Type 0) (one : (r r' : S) (h h' : H) → Ends r h → Ends r' h' → (r ≡ r') × (h ≡ h')) where
  pub call-one : {r r' : S} {h h' : H} {u u' : K} → Call no nothing unused checked need Fits Ends r h u → Call no nothing unused checked need Fits Ends r' h' u' → (r ≡ r') × (h ≡ h') × (u ≡ u')
  call-one (refused {why = a} e) (refused {why = b} f) = (ap no (refused-same a b (sym e ∙ f)), refl, refl)
  call-one (refused {why = a} e) (cramped f _) = absurd (fine-refused a (sym e ∙ f))
  call-one (refused {why = a} e) (ended f _ _) = absurd (fine-refused a (sym e ∙ f))
  call-one (cramped e _) (refused {why = a} f) = absurd (fine-refused a (sym f ∙ e))
  call-one (cramped e n) (cramped f m) = (refl, refl, refl)
  call-one (cramped e n) (ended f m _) = absurd (n m)
  call-one (ended e _ _) (refused {why = a} f) = absurd (fine-refused a (sym f ∙ e))
  call-one (ended e m _) (cramped f n) = absurd (n m)
  call-one (ended {r = r} {h = h} e _ x) (ended {r = r'} {h = h'} f _ y) = let w = one r r' h h' x y in (w.0, w.1, refl)

module _ {S H : Type 0} (no : Refusal → S) (nothing : H) (checked : Answer) (need have : Room) (Ends : S → H → Type 0) (one : (r r' : S) (h h' : H) → Ends r h → Ends r' h' → (r ≡ r') × (h ≡ h')) where
  pub comes-one : {r r' : S} {h h' : H} {u u' : Room} → Comes no nothing checked need have Ends r h u → Comes no nothing checked need have Ends r' h' u' → (r ≡ r') × (h ≡ h') × (u ≡ u')
  comes-one = call-one no nothing untouched checked need (Roomy need have) Ends one

-- the working lists afterwards are determined by what is used of them
pub cleared-one : (u u' : Room) (keys k k' rows o o' spare p p' counts c c' : List ℕ) → u ≡ u' → Cleared u keys k rows o spare p counts c → Cleared u' keys k' rows o' spare p' counts c' → (k ≡ k') × (o ≡ o') × (p ≡ p') × (c ≡ c')
cleared-one u u' keys k k' rows o o' spare p p' counts c c' e a b = (
  a.of_keys ∙ ap (λ (u : Room). zeroed u.keys keys) e ∙ sym b.of_keys,
  a.of_rows ∙ ap (λ (u : Room). zeroed u.rows rows) e ∙ sym b.of_rows,
  a.of_spare ∙ ap (λ (u : Room). zeroed u.spare spare) e ∙ sym b.of_spare,
  a.of_counts ∙ ap (λ (u : Room). zeroed u.counts counts) e ∙ sym b.of_counts,
)
