-- One more point reduced, and the ways out of the call. Assumes nothing.
use Rattle.refusal.specs.declared.Refusal.{Refusal}
use Rattle.refusal.specs.declared.Refusal.TheVariants.{TooShort}
use Rattle.refusal.specs.Says.{Answer, fine}
use Rattle.std.specs.Prelude.{Err}
use mathlib.Core.List.{List, [], ◌∷◌, ◌++◌, map, map-append}
use mathlib.Core.Path.{◌≡◌, refl, sym, ap, ◌∙◌}
use Prim.Native.Nat.{ℕ, ◌+◌, ◌≤◌, ◌<◌}
use native.Mathlib.Omega.{arith}
use lib.Dec.{ltb}
use lib.ListN.{length, get_or, take, drop, set, length-map}
use lib.Seq.{length-take-le}
use borrow.Author.Tests.{lt-ltb, le-ltb}
use Rattle.lists.proofs.Front.{put, take_more}
use Rattle.refusal.specs.Lent.{onto}
use Rattle.refusal.specs.Refuse.{refuse}
use Rattle.quotient.specs.declared.Grid.{Grid}
use Rattle.quotient.specs.Shape.{check_of}
use Rattle.quotient.specs.Reduce.{vertex_of}
use Rattle.grid_swath.specs.Swath.{swath_of, after, swath_says, unrefused, swath_hands}

pub turn : (f : ℕ → ℕ) (ps to₀ to : List ℕ) (i : ℕ) → i < length ps → i < length to₀ → to ≡ map f (take i ps) ++ drop i to₀ → set to i (f (get_or ps i 0)) ≡ map f (take (i + 1) ps) ++ drop (i + 1) to₀
turn f ps to₀ to i h l e =
    ap (λ (t : List ℕ). set t i (f (get_or ps i 0))) e
    ∙ put (map f (take i ps)) to₀ i (f (get_or ps i 0)) (length-map (take i ps) f ∙ length-take-le i ps (omega arith)) l
    ∙ ap (λ (t : List ℕ). t ++ drop (i + 1) to₀) (sym (map-append f (take i ps) (get_or ps i 0 ∷ [])) ∙ ap (map f) (sym (take_more ps i h)))

-- a call that says r and leaves its list as l, as the promise has it
abbrev pub Ends : Grid → List ℕ → List ℕ → Answer → List ℕ → Type 0
Ends g ps glued r l = (r ≡ swath_says g ps (length glued)) × (l ≡ onto (swath_hands g ps (length glued)) glued)

module _ (g : Grid) (ps glued : List ℕ) where
  ends : (r : Answer) (l : List ℕ) → swath_says g ps (length glued) ≡ r → l ≡ onto (unrefused r (swath_of g ps)) glued → Ends g ps glued r l
  ends r l e h = (sym e, h ∙ ap (λ (a : Answer). onto (unrefused a (swath_of g ps)) glued) (sym e))

  pub out-refused : (why : Refusal) → check_of g ≡ Err why → Ends g ps glued (Err why) glued
  out-refused why e = ends (Err why) glued (ap (λ (a : Answer). after a (refuse (ltb (length glued) (length ps)) TooShort fine)) e) refl

  pub says-short : check_of g ≡ fine → length glued < length ps → swath_says g ps (length glued) ≡ Err TooShort
  says-short e h = rw (e, lt-ltb _ _ h)

  pub says-fine : check_of g ≡ fine → length ps ≤ length glued → swath_says g ps (length glued) ≡ fine
  says-fine e h = rw (e, le-ltb _ _ h)

  pub out-short : check_of g ≡ fine → length glued < length ps → Ends g ps glued (Err TooShort) glued
  out-short e h = ends (Err TooShort) glued (says-short e h) refl

  pub out-reduced : check_of g ≡ fine → length ps ≤ length glued → (part : List ℕ) → part ≡ swath_of g ps → Ends g ps glued fine (part ++ drop (length ps) glued)
  out-reduced e h part q =
      ends fine (part ++ drop (length ps) glued) (says-fine e h)
      (ap (λ (l : List ℕ). l ++ drop (length ps) glued) q ∙ ap (λ (n : ℕ). swath_of g ps ++ drop n glued) (sym (length-map ps (vertex_of g))))
