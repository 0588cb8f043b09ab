-- The ways out of `induced_orientation`; its promise determines what it says and every list, and yes is said exactly of coherent signs. Assumes nothing.
use Rattle.std.specs.Prelude.{true}
use Rattle.refusal.specs.declared.Refusal.{Refusal}
use Rattle.refusal.specs.declared.Refusal.TheVariants.{TooShort}
use Rattle.refusal.specs.Says.{Verdict, fine}
use Rattle.std.specs.Prelude.{Err, Ok}
use mathlib.Core.List.{List, ◌++◌}
use mathlib.Core.Path.{◌≡◌, refl, subst}
use Prim.Native.Nat.{ℕ, ◌<◌}
use lib.ListN.{length, take, drop}
use Rattle.refusal.specs.declared.Room.{Room}
use Rattle.refusal.specs.Lent.{untouched, lengths, Roomy}
use Rattle.refusal.specs.Call.{Comes, refused, cramped, ended}
use Rattle.refusal.proofs.Parts.{parts-cleared}
use Rattle.refusal.proofs.Determined.{comes-one, cleared-one}
use Rattle.lists.specs.Zero.{AllZero}
use Rattle.complex.specs.Check.{answer_of}
use Rattle.complex.specs.Cells.{cells_of}
use Rattle.complex.specs.Facets.{cell_at, Crowded}
use Rattle.orientation_signs.specs.Signs.{Coherent}
use Rattle.ordering_words.specs.Order.{words_by, Orders}
use Rattle.ordering.specs.Promise.{order_need, word_sign, Wound, Induced}
use Rattle.ordering.specs.Promise.Wound.{crowded as wound-crowded, unordered as wound-unordered, coherent as wound-coherent, incoherent as wound-incoherent}

module _ (d : ℕ) (ws order keys rows spare counts : List ℕ) where
  pub wound-out-refused : (why : Refusal) → answer_of d ws ≡ Err why → Induced d ws order (Err why) keys keys rows rows spare spare counts counts
  wound-out-refused why e =
      record { used = untouched; comes = refused e; room = record { of_keys = refl; of_rows = refl; of_spare = refl; of_counts = refl } }

  pub wound-out-cramped : answer_of d ws ≡ fine → (n : Room) → n ≡ order_need (length ws) → (Roomy n (lengths keys rows spare counts) → ⊥) → Induced d ws order (Err TooShort) keys keys rows rows spare spare counts counts
  wound-out-cramped e n q f =
      record {
        used = untouched;
        comes = cramped e (subst (λ (m : Room). Roomy m (lengths keys rows spare counts) → ⊥) q f);
        room = record { of_keys = refl; of_rows = refl; of_spare = refl; of_counts = refl };
      }

  module _ (e : answer_of d ws ≡ fine) (n : Room) (q : n ≡ order_need (length ws)) (h : Roomy n (lengths keys rows spare counts)) where
    pub wound-out-ended : (r : Verdict) (k o s c : List ℕ) → Wound d (cells_of d ws) order r tt → AllZero (take n.keys keys) k (take n.rows rows) o (take n.spare spare) s (take n.counts counts) c →
        Induced d ws order r keys (k ++ drop n.keys keys) rows (o ++ drop n.rows rows) spare (s ++ drop n.spare spare) counts (c ++ drop n.counts counts)
    wound-out-ended r k o s c w z =
        record {
          used = n;
          comes = subst (λ (m : Room). Comes Err tt (answer_of d ws) m (lengths keys rows spare counts) (Wound d (cells_of d ws) order) r tt n) q (ended e h w);
          room = parts-cleared n keys k rows o spare s counts c h z;
        }

module _ (d : ℕ) (cs : List (List ℕ)) (order : List ℕ) where
  pub wound-one : (r r' : Verdict) (h h' : Unit {0}) → Wound d cs order r h → Wound d cs order r' h' → (r ≡ r') × (h ≡ h')
  wound-one r r' h h' (wound-crowded x) (wound-crowded x') = (refl, refl)
  wound-one r r' h h' (wound-crowded x) (wound-unordered n' f') = absurd (n' x)
  wound-one r r' h h' (wound-crowded x) (wound-coherent n' o' l' a') = absurd (n' x)
  wound-one r r' h h' (wound-crowded x) (wound-incoherent n' o' g') = absurd (n' x)
  wound-one r r' h h' (wound-unordered n f) (wound-crowded x') = absurd (n x')
  wound-one r r' h h' (wound-unordered n f) (wound-unordered n' f') = (refl, refl)
  wound-one r r' h h' (wound-unordered n f) (wound-coherent n' o' l' a') = absurd (f o')
  wound-one r r' h h' (wound-unordered n f) (wound-incoherent n' o' g') = absurd (f o')
  wound-one r r' h h' (wound-coherent n o l a) (wound-crowded x') = absurd (n x')
  wound-one r r' h h' (wound-coherent n o l a) (wound-unordered n' f') = absurd (f' o)
  wound-one r r' h h' (wound-coherent n o l a) (wound-coherent n' o' l' a') = (refl, refl)
  wound-one r r' h h' (wound-coherent n o l a) (wound-incoherent n' o' g') = absurd (g' l a)
  wound-one r r' h h' (wound-incoherent n o g) (wound-crowded x') = absurd (n x')
  wound-one r r' h h' (wound-incoherent n o g) (wound-unordered n' f') = absurd (f' o)
  wound-one r r' h h' (wound-incoherent n o g) (wound-coherent n' o' l' a') = absurd (g l' a')
  wound-one r r' h h' (wound-incoherent n o g) (wound-incoherent n' o' g') = (refl, refl)

-- where nothing is refused, yes is said exactly of words with coherent signs, above dimension 0
module _ (d : ℕ) (cs : List (List ℕ)) (order : List ℕ) (free : Crowded d cs → ⊥) (ordered : Orders d cs order) where
  pub induced-exactly : (r : Verdict) (h : Unit {0}) → Wound d cs order r h → (r ≡ Ok true → (0 < d) × Coherent d cs (λ c. word_sign (cell_at (words_by d cs order) c))) × ((0 < d) × Coherent d cs (λ c. word_sign (cell_at (words_by d cs order) c)) → r ≡ Ok true)
  induced-exactly r h (wound-crowded x) = absurd (free x)
  induced-exactly r h (wound-unordered n f) = absurd (f ordered)
  induced-exactly r h (wound-coherent n o l a) = (λ e. (l, a), λ q. refl)
  induced-exactly r h (wound-incoherent n o g) = (λ e. cc, λ q. absurd (g q.0 q.1))

-- two exits of one call agree in everything
pub induced-one : (d : ℕ) (ws order : List ℕ) (r r' : Verdict) (keys k k' rows o o' spare p p' counts c c' : List ℕ) → Induced d ws order r keys k rows o spare p counts c → Induced d ws order r' keys k' rows o' spare p' counts c' → (r ≡ r') × ((k ≡ k') × (o ≡ o') × (p ≡ p') × (c ≡ c'))
induced-one d ws order r r' keys k k' rows o o' spare p p' counts c c' x y =
    let w = comes-one Err tt (answer_of d ws) (order_need (length ws)) (lengths keys rows spare counts) (Wound d (cells_of d ws) order) (wound-one d (cells_of d ws) order) x.comes y.comes in (
      w.0,
      cleared-one x.used y.used keys k k' rows o o' spare p p' counts c c' w.2 x.room y.room,
    )
