-- Two complexes that are alike up to the numbers of their vertices: the renaming as a function with an inverse. A vertex goes to the vertex with the same shares; there
-- is one, since every vertex is used and the words are alike, and only one, since different vertices have different shares. Assumes nothing.
use mathlib.Core.Path.{◌≡◌, sym, ap, ◌∙◌}
use mathlib.Core.List.Memᴰ
use mathlib.Core.List.{List, map}
use Prim.Native.Nat.{ℕ, suc, ◌≤◌, ◌<◌}
use native.Mathlib.Decide.{dec_lt}
use native.Mathlib.Omega.{arith}
use lib.ListN.{length, get_or, length-map}
use lib.Seq.{ext_get_or}
use Rattle.lists.proofs.Laws.{map_at}
use Rattle.refine_lattice.specs.Complex.{Words, Complex, Apart, Within, Alike}
use Rattle.refine_lattice.specs.Refine.{In}
use Rattle.refine_lattice.specs.Conform.{Used}
use Rattle.refine_lattice.proofs.Enumerate.{times-at, place-of}
use Rattle.refine_laws.specs.Composition.{Renamed}

-- a vertex at its place in a word
record Place (d : ℕ) (T : Words) (x : ℕ) : Type 0 where
  w : List ℕ
  in-T : T w
  i : ℕ
  below : i < suc d
  at : get_or w i 0 ≡ x

placed : (d N : ℕ) (T : Words) → Complex d N T → Used N T → (x : ℕ) → x < N → Place d T x
unfolding Used
placed d N T c u x h =
    let (w, m, p) = u x h in
    let (i, b, e) = place-of w x p in
    record { w = w; in-T = m; i = i; below = omega (arith, c.long w m); at = e }

-- vertices with the same shares are one
pub told : (d N : ℕ) (T : Words) (share : ℕ → ℕ → ℕ) → Complex d N T → Used N T → Apart d T share → (x x' : ℕ) → x < N → x' < N
    → ((v : ℕ) → share x v ≡ share x' v) → x ≡ x'
unfolding Apart
told d N T share c u apart x x' h h' e =
    let p = placed d N T c u x h in
    let q = placed d N T c u x' h' in
    sym p.at
    ∙ apart p.w q.w p.in-T q.in-T p.i q.i p.below q.below
    (λ v. ap (λ (z : ℕ). share z v) p.at ∙ e v ∙ ap (λ (z : ℕ). share z v) (sym q.at))
    ∙ q.at

-- one way
module _ (d N N' : ℕ) (T C : Words) (share share' : ℕ → ℕ → ℕ) (c : Complex d N T) (u : Used N T) (c' : Complex d N' C) (forth : Within d T C share share') where
  twin : (x : ℕ) → x < N → (y : ℕ) × (y < N') × ((v : ℕ) → share' y v ≡ share x v)
  unfolding Within
  twin x h =
      let p = placed d N T c u x h in
      let (y, m, s) = forth p.w p.in-T in (
        get_or y p.i 0,
        c'.below y m (get_or y p.i 0) (times-at y p.i (omega (arith, c'.long y m, p.below))),
        (λ v. sym (s p.i p.below v) ∙ ap (λ (z : ℕ). share z v) p.at),
      )

  sent : (x : ℕ) → Dec (x < N) → ℕ
  sent x (yes h) = (twin x h).0
  sent x (no h) = x

  pub send : ℕ → ℕ
  send x = sent x (dec_lt x N)

  pub send-in : (x : ℕ) → x < N → send x < N'
  unfolding send sent
  send-in x h = go (dec_lt x N)
    where
      go : (δ : Dec (x < N)) → sent x δ < N'
      go (yes g) = (twin x g).1
      go (no g) = absurd (g h)

  pub send-keeps : (x : ℕ) → x < N → (v : ℕ) → share' (send x) v ≡ share x v
  unfolding send sent
  send-keeps x h = go (dec_lt x N)
    where
      go : (δ : Dec (x < N)) → (v : ℕ) → share' (sent x δ) v ≡ share x v
      go (yes g) = (twin x g).2
      go (no g) = absurd (g h)

  -- and so a word goes to the word that is alike
  pub send-word : Used N' C → Apart d C share' → (w : List ℕ) → T w → (y : List ℕ) × C y × (map send w ≡ y)
  unfolding Within
  send-word u' apart w m =
      let (y, k, s) = forth w m in
      let lw : length w ≡ suc d = c.long w m in
      let ly : length y ≡ suc d = c'.long y k in (
        y,
        k,
        ext_get_or 0 (map send w) y (length-map w send ∙ lw ∙ sym ly)
            (λ i h.
            let b : i < suc d = omega (arith, length-map w send) in
            let x : ℕ = get_or w i 0 in
            let hx : x < N = c.below w m x (times-at w i (omega arith)) in
            map_at send w i 0 0 (omega arith)
            ∙ told d N' C share' c' u' apart (send x) (get_or y i 0) (send-in x hx)
            (c'.below y k (get_or y i 0) (times-at y i (omega arith)))
            (λ v. send-keeps x hx v ∙ s i b v)),
      )

-- both ways
module _ (d n N N' : ℕ) (ts cs : List (List ℕ)) (share share' : ℕ → ℕ → ℕ) (c : Complex d N (In ts)) (u : Used N (In ts)) (c' : Complex d N' (In cs)) (u' : Used N' (In cs))
    (alike : Alike d (In ts) (In cs) share share') (old : n ≤ N) (old' : n ≤ N') (fixed : (x : ℕ) → x < n → (v : ℕ) → share x v ≡ share' x v) where
  abbrev to : ℕ → ℕ
  to = send d N N' (In ts) (In cs) share share' c u c' alike.forth

  abbrev from : ℕ → ℕ
  from = send d N' N (In cs) (In ts) share' share c' u' c alike.back

  into : (x : ℕ) → x < N → to x < N'
  into = send-in d N N' (In ts) (In cs) share share' c u c' alike.forth

  back : (y : ℕ) → y < N' → from y < N
  back = send-in d N' N (In cs) (In ts) share' share c' u' c alike.back

  keeps : (x : ℕ) → x < N → (v : ℕ) → share' (to x) v ≡ share x v
  keeps = send-keeps d N N' (In ts) (In cs) share share' c u c' alike.forth

  keeps-back : (y : ℕ) → y < N' → (v : ℕ) → share (from y) v ≡ share' y v
  keeps-back = send-keeps d N' N (In cs) (In ts) share' share c' u' c alike.back

  pub renamed : Renamed n N N' ts cs share share'
  renamed = record {
    to = to;
    from = from;
    into = into;
    back = back;
    from_to = λ x h.
        told d N (In ts) share c u alike.apart (from (to x)) x (back (to x) (into x h)) h
        (λ v. keeps-back (to x) (into x h) v ∙ keeps x h v);
    to_from = λ y h.
        told d N' (In cs) share' c' u' alike.apart' (to (from y)) y (into (from y) (back y h)) h
        (λ v. keeps (from y) (back y h) v ∙ keeps-back y h v);
    fixes = λ x h.
        told d N' (In cs) share' c' u' alike.apart' (to x) x (into x (omega arith)) (omega arith)
        (λ v. keeps x (omega arith) v ∙ fixed x h v);
    keeps = keeps;
    words = λ w m.
        let (y, k, e) = send-word d N N' (In ts) (In cs) share share' c u c' alike.forth u' alike.apart' w m in
        Memᴰ.cast e k;
    words_back = λ y m.
        let (w, k, e) = send-word d N' N (In cs) (In ts) share' share c' u' c alike.back u alike.apart y m in
        Memᴰ.cast e k;
  }
