-- The walk is determined: from one state its relations lead to one state, and two answers for the same lists are equal. Assumes nothing.
use Prim.Native.Nat.{ℕ, ◌+◌, ◌-◌, ◌*◌, ◌<◌}
use mathlib.Core.Path.{◌≡◌, refl, sym, ap, ◌∙◌}
use mathlib.Core.Bool.{Bool, true, false}
use mathlib.Core.List.{List}
use native.Mathlib.Omega.{arith}
use native.Mathlib.Decide.{ℕ_discrete, dec_lt}
use lib.ListN.{get_or, set}
use Rattle.orientation_walk.specs.WorkSteps.{Look, Clash, Slots, Stuck, Drain, Broken, Pieces, Refused, Answer}
use Rattle.orientation_walk.specs.WorkSteps.Look.{edge, fresh, fits}
use Rattle.orientation_walk.specs.WorkSteps.Pieces.{signed, begun}

-- one state of the walk
record Same (g t : List ℕ) (h : ℕ) (g' t' : List ℕ) (h' : ℕ) : Type 0 where
  eg : g ≡ g'
  et : t ≡ t'
  eh : h ≡ h'

look-look : {o fl : List ℕ} {c p : ℕ} {g t : List ℕ} {h : ℕ} {g1 t1 : List ℕ} {h1 : ℕ} {g2 t2 : List ℕ} {h2 : ℕ} →
    Look o fl c p g t h g1 t1 h1 → Look o fl c p g t h g2 t2 h2 → Same g1 t1 h1 g2 t2 h2
look-look (edge e a b d) (edge e' a' b' d') = record { eg = a ∙ sym a'; et = b ∙ sym b'; eh = d ∙ sym d' }
look-look (edge e a b d) (fresh s z a' b' d') = absurd (s e)
look-look (edge e a b d) (fits s z q a' b' d') = absurd (s e)
look-look (fresh s z a b d) (edge e' a' b' d') = absurd (s e')
look-look (fresh s z a b d) (fresh s' z' a' b' d') = record { eg = a ∙ sym a'; et = b ∙ sym b'; eh = d ∙ sym d' }
look-look (fresh s z a b d) (fits s' z' q a' b' d') = absurd (z' z)
look-look (fits s z q a b d) (edge e' a' b' d') = absurd (s e')
look-look (fits s z q a b d) (fresh s' z' a' b' d') = absurd (z z')
look-look (fits s z q a b d) (fits s' z' q' a' b' d') = record { eg = a ∙ sym a'; et = b ∙ sym b'; eh = d ∙ sym d' }

look-clash : {o fl : List ℕ} {c p : ℕ} {g t : List ℕ} {h : ℕ} {g1 t1 : List ℕ} {h1 : ℕ} → Look o fl c p g t h g1 t1 h1 → Clash o fl c p g → ⊥
look-clash (edge e a b d) q = q.some e
look-clash (fresh s z a b d) q = q.signed z
look-clash (fits s z e a b d) q = q.wrong e

module _ {k : ℕ} {o fl : List ℕ} {c : ℕ} {g t : List ℕ} {h : ℕ} where
  slots-slots : {s s' : ℕ} {g1 t1 : List ℕ} {h1 : ℕ} {g2 t2 : List ℕ} {h2 : ℕ} → s ≡ s' → Slots k o fl c g t h s g1 t1 h1 → Slots k o fl c g t h s' g2 t2 h2 →
      Same g1 t1 h1 g2 t2 h2
  slots-slots e Slots.none_yet Slots.none_yet = record { eg = refl; et = refl; eh = refl }
  slots-slots e Slots.none_yet (Slots.one_more w l) = absurd (omega arith)
  slots-slots e (Slots.one_more w l) Slots.none_yet = absurd (omega arith)
  slots-slots e (Slots.one_more {s = s} w l) (Slots.one_more {s = s'} w' l') =
      let q : s ≡ s' = omega arith in
      let m = slots-slots q w w' in
      look-look l (rw (← q, ← m.eg, ← m.et, ← m.eh) at l')

  -- what follows the first s slots in a longer run
  slots_next : {s s' : ℕ} {g1 t1 : List ℕ} {h1 : ℕ} {g2 t2 : List ℕ} {h2 : ℕ} → s < s' → Slots k o fl c g t h s g1 t1 h1 → Slots k o fl c g t h s' g2 t2 h2 →
      (g3 t3 : List ℕ) × (h3 : ℕ) × Look o fl c (c * k + s) g1 t1 h1 g3 t3 h3
  slots_next {s} l w Slots.none_yet = absurd (omega arith)
  slots_next {s} l w (Slots.one_more {s = s'} {g2 = g3} {t2 = t3} {h2 = h3} w' q) =
      elim (ℕ_discrete s s') [
        | yes e ↦
            let m = slots-slots e w w' in
            (g3, t3, h3, rw (← e, ← m.eg, ← m.et, ← m.eh) at q)
        | no ne ↦ slots_next (omega arith) w w'
      ]

  stuck-slots : {s s' : ℕ} {g1 t1 g2 t2 : List ℕ} {h2 : ℕ} → s < s' → Stuck k o fl c g t h s g1 t1 → Slots k o fl c g t h s' g2 t2 h2 → ⊥
  stuck-slots l a w = let n = slots_next l a.slots w in look-clash n.3 a.clash

  stuck-stuck : {s s' : ℕ} {g1 t1 g2 t2 : List ℕ} → Stuck k o fl c g t h s g1 t1 → Stuck k o fl c g t h s' g2 t2 → s ≡ s'
  stuck-stuck {s} {s'} a b =
      elim (dec_lt s s') [
        | yes l ↦ absurd (stuck-slots l a b.slots)
        | no f ↦ elim (dec_lt s' s) [ yes l ↦ absurd (stuck-slots l b a.slots) | no f' ↦ omega arith ]
      ]

-- what follows the first m cells in a longer run
record Next (k : ℕ) (o fl g1 t1 : List ℕ) (h1 : ℕ) : Type 0 where
  more : 0 < h1
  g3 : List ℕ
  t3 : List ℕ
  h3 : ℕ
  slots : Slots k o fl (get_or t1 (h1 - 1) 0) g1 t1 (h1 - 1) k g3 t3 h3

-- one end of the walk
record SameEnd (m s : ℕ) (g1 t1 : List ℕ) (m' s' : ℕ) (g2 t2 : List ℕ) : Type 0 where
  em : m ≡ m'
  es : s ≡ s'
  eg : g1 ≡ g2
  et : t1 ≡ t2

module _ {k : ℕ} {o fl : List ℕ} {g t : List ℕ} {h : ℕ} where
  drain-drain : {m m' : ℕ} {g1 t1 : List ℕ} {h1 : ℕ} {g2 t2 : List ℕ} {h2 : ℕ} → m ≡ m' → Drain k o fl g t h m g1 t1 h1 → Drain k o fl g t h m' g2 t2 h2 →
      Same g1 t1 h1 g2 t2 h2
  drain-drain e Drain.none_yet Drain.none_yet = record { eg = refl; et = refl; eh = refl }
  drain-drain e Drain.none_yet (Drain.one_more w l q) = absurd (omega arith)
  drain-drain e (Drain.one_more w l q) Drain.none_yet = absurd (omega arith)
  drain-drain e (Drain.one_more {m = m} w l q) (Drain.one_more {m = m'} w' l' q') =
      let i : m ≡ m' = omega arith in
      let s = drain-drain i w w' in
      slots-slots refl q (rw (← s.eg, ← s.et, ← s.eh) at q')

  drain-next : {m m' : ℕ} {g1 t1 : List ℕ} {h1 : ℕ} {g2 t2 : List ℕ} {h2 : ℕ} → m < m' → Drain k o fl g t h m g1 t1 h1 → Drain k o fl g t h m' g2 t2 h2 → Next k o fl g1 t1 h1
  drain-next l w Drain.none_yet = absurd (omega arith)
  drain-next {m} {g1 = g1} {t1} {h1} l w (Drain.one_more {m = m'} {g1 = g4} {t1 = t4} {h1 = h4} {g2 = g3} {t2 = t3} {h2 = h3} w' p q) =
      elim (ℕ_discrete m m') [
        | yes e ↦
            let s = drain-drain e w w' in
            record { more = rw s.eh p; g3 = g3; t3 = t3; h3 = h3; slots = rw (← s.eg, ← s.et, ← s.eh) at q }
        | no ne ↦ drain-next (omega arith) w w'
      ]

  -- a stack is empty once
  empty-once : {m m' : ℕ} {g1 t1 g2 t2 : List ℕ} → Drain k o fl g t h m g1 t1 0 → Drain k o fl g t h m' g2 t2 0 → m ≡ m'
  empty-once {m} {m'} a b =
      elim (dec_lt m m') [
        | yes l ↦ absurd (omega (arith, (drain-next l a b).more))
        | no f ↦ elim (dec_lt m' m) [ yes l ↦ absurd (omega (arith, (drain-next l b a).more)) | no f' ↦ omega arith ]
      ]

  broken-drain : {m m' s : ℕ} {g1 t1 g2 t2 : List ℕ} {h2 : ℕ} → m < m' → Broken k o fl g t h m s g1 t1 → Drain k o fl g t h m' g2 t2 h2 → ⊥
  broken-drain l a w = let n = drain-next l a.drain w in stuck-slots a.stuck.below a.stuck n.slots

  broken-empty : {m m' s : ℕ} {g1 t1 g2 t2 : List ℕ} → Broken k o fl g t h m s g1 t1 → Drain k o fl g t h m' g2 t2 0 → ⊥
  broken-empty {m} {m'} a w =
      elim (dec_lt m m') [
        | yes l ↦ broken-drain l a w
        | no f ↦
            elim (dec_lt m' m) [
              | yes l ↦ omega (arith, (drain-next l w a.drain).more)
              | no f' ↦ let q : m ≡ m' = omega arith in omega (arith, (drain-drain q a.drain w).eh, a.more)
            ]
      ]

  broken-broken : {m s m' s' : ℕ} {g1 t1 g2 t2 : List ℕ} → Broken k o fl g t h m s g1 t1 → Broken k o fl g t h m' s' g2 t2 → SameEnd m s g1 t1 m' s' g2 t2
  broken-broken {m} {s} {m'} {s'} a b =
      let em : m ≡ m' =
      elim (dec_lt m m') [
        | yes l ↦ absurd (broken-drain l a b.drain)
        | no f ↦ elim (dec_lt m' m) [ yes l ↦ absurd (broken-drain l b a.drain) | no f' ↦ omega arith ]
      ] in
      let q = drain-drain em a.drain b.drain in
      let b' = rw (← q.eg, ← q.et, ← q.eh) at b.stuck in
      let es : s ≡ s' = stuck-stuck a.stuck b' in
      let r = slots-slots es a.stuck.slots b'.slots in
      record { em = em; es = es; eg = r.eg; et = r.et }

module _ {k : ℕ} {o fl : List ℕ} {g t : List ℕ} where
  pieces-pieces : {i m i' m' : ℕ} {g1 t1 g2 t2 : List ℕ} → i ≡ i' → Pieces k o fl g t i m g1 t1 → Pieces k o fl g t i' m' g2 t2 → Same g1 t1 m g2 t2 m'
  pieces-pieces e Pieces.none_yet Pieces.none_yet = record { eg = refl; et = refl; eh = refl }
  pieces-pieces e Pieces.none_yet (signed w z) = absurd (omega arith)
  pieces-pieces e Pieces.none_yet (begun w z d) = absurd (omega arith)
  pieces-pieces e (signed w z) Pieces.none_yet = absurd (omega arith)
  pieces-pieces e (begun w z d) Pieces.none_yet = absurd (omega arith)
  pieces-pieces e (signed {i = i} w z) (signed {i = i'} w' z') = pieces-pieces (omega arith) w w'
  pieces-pieces e (signed {i = i} w z) (begun {i = i'} w' z' d') =
      let q : i ≡ i' = omega arith in
      let s = pieces-pieces q w w' in
      absurd (z (rw (q, s.eg) z'))
  pieces-pieces e (begun {i = i} w z d) (signed {i = i'} w' z') =
      let q : i ≡ i' = omega arith in
      let s = pieces-pieces q w w' in
      absurd (z' (rw (← q, ← s.eg) z))
  pieces-pieces e (begun {i = i} {m = m} {m' = p} w z d) (begun {i = i'} {m = m'} {m' = p'} w' z' d') =
      let q : i ≡ i' = omega arith in
      let s = pieces-pieces q w w' in
      let d2 = rw (← q, ← s.eg, ← s.et) at d' in
      let u : p ≡ p' = empty-once d d2 in
      let r = drain-drain u d d2 in
      let v : m ≡ m' = s.eh in
      record { eg = r.eg; et = r.et; eh = omega arith }

  -- a run goes past no piece that breaks
  broken-pieces : {i i' m m' p s : ℕ} {g1 t1 g2 t2 g3 t3 : List ℕ} → i < i' → Pieces k o fl g t i m g1 t1 → get_or g1 i 0 ≡ 0 →
      Broken k o fl (set g1 i 1) (set t1 0 i) 1 p s g3 t3 → Pieces k o fl g t i' m' g2 t2 → ⊥
  broken-pieces l w z a Pieces.none_yet = absurd (omega arith)
  broken-pieces {i} l w z a (signed {i = i'} w' z') =
      elim (ℕ_discrete i i')
      [ yes e ↦ let s = pieces-pieces e w w' in z' (rw (← e, ← s.eg) z) | no ne ↦ broken-pieces (omega arith) w z a w' ]
  broken-pieces {i} l w z a (begun {i = i'} w' z' d) =
      elim (ℕ_discrete i i') [
        | yes e ↦ let s = pieces-pieces e w w' in broken-empty a (rw (← e, ← s.eg, ← s.et) at d)
        | no ne ↦ broken-pieces (omega arith) w z a w'
      ]

  refused-refused : {n m s m' s' : ℕ} {g1 t1 g2 t2 : List ℕ} → Refused n k o fl g t m s g1 t1 → Refused n k o fl g t m' s' g2 t2 → SameEnd m s g1 t1 m' s' g2 t2
  refused-refused {m = m} {m' = m'} a b =
      let i = a.i in
      let i' = b.i in
      let ei : i ≡ i' =
      elim (dec_lt i i') [
        | yes l ↦ absurd (broken-pieces l a.pieces a.blank a.broken b.pieces)
        | no f ↦ elim (dec_lt i' i) [ yes l ↦ absurd (broken-pieces l b.pieces b.blank b.broken a.pieces) | no f' ↦ omega arith ]
      ] in
      let q = pieces-pieces ei a.pieces b.pieces in
      let r = broken-broken a.broken (rw (← ei, ← q.eg, ← q.et) at b.broken) in
      record { em = omega (arith, a.sum, b.sum, q.eh, r.em); es = r.es; eg = r.eg; et = r.et }

-- the answer, and the lists afterwards, for given lists: one and no other
pub record SameAnswer (g1 t1 : List ℕ) (ok : Bool) (looks : ℕ) (g2 t2 : List ℕ) (ok' : Bool) (looks' : ℕ) : Type 0 where
  pub ok_same : ok ≡ ok'
  pub looks-same : looks ≡ looks'
  pub signs-same : g1 ≡ g2
  pub stack_same : t1 ≡ t2

pub determined : {n k : ℕ} {o fl g t g1 t1 g2 t2 : List ℕ} {ok ok' : Bool} {looks looks' : ℕ} → Answer n k o fl g t g1 t1 ok looks → Answer n k o fl g t g2 t2 ok' looks' →
    SameAnswer g1 t1 ok looks g2 t2 ok' looks'
determined {n} {k} {ok = true} {ok' = true} a b =
    let q = pieces-pieces refl (a.run refl) (b.run refl) in
    record { ok_same = refl; looks-same = a.whole refl ∙ sym (b.whole refl); signs-same = q.eg; stack_same = q.et }
determined {ok = true} {ok' = false} a b = absurd (b.no refl _ (a.yes refl).coherent)
determined {ok = false} {ok' = true} a b = absurd (a.no refl _ (b.yes refl).coherent)
determined {k = k} {ok = false} {ok' = false} a b =
    let x = a.part refl in
    let y = b.part refl in
    let q = refused-refused x.refused y.refused in
    record {
      ok_same = refl;
      looks-same = x.count ∙ ap (λ z. z * k + x.slot + 1) q.em ∙ ap (λ z. y.taken * k + z + 1) q.es ∙ sym y.count;
      signs-same = q.eg;
      stack_same = q.et;
    }
