-- Lists given by a function on their places. Assumes nothing.
use mathlib.Core.Path.{◌≡◌, refl, ap, ◌∙◌}
use mathlib.Core.List.{List, [], ◌∷◌, ◌++◌, map}
use Prim.Native.Nat.{ℕ, zero, suc, ◌<◌, suc-le-suc}
use native.Mathlib.Nat.{not-suc-le-zero, le_of_suc-le-suc}
use native.Mathlib.Omega.{arith}
use lib.ListN.{length, get_or}
use Rattle.lists.specs.Tables.{tab}

module _ {ℓ} {A : Type ℓ} where
  pub length-tab : (n : ℕ) (f : ℕ → A) → length (tab n f) ≡ n
  length-tab zero f = refl
  length-tab (suc n) f = ap suc (length-tab n (λ k. f (suc k)))

  pub get_or-tab : (n : ℕ) (f : ℕ → A) (i : ℕ) (z : A) → i < n → get_or (tab n f) i z ≡ f i
  get_or-tab zero f i z h = absurd (not-suc-le-zero h)
  get_or-tab (suc n) f zero z h = refl
  get_or-tab (suc n) f (suc i) z h = get_or-tab n (λ k. f (suc k)) i z (le_of_suc-le-suc h)

  pub tab-ext : (n : ℕ) (f g : ℕ → A) → ((i : ℕ) → i < n → f i ≡ g i) → tab n f ≡ tab n g
  tab-ext zero f g h = refl
  tab-ext (suc n) f g h = cc (h zero (omega arith), tab-ext n (λ k. f (suc k)) (λ k. g (suc k)) (λ i l. h (suc i) (suc-le-suc l)))

  -- one entry more, at the end
  pub tab-more : (n : ℕ) (f : ℕ → A) → tab (suc n) f ≡ tab n f ++ (f n ∷ [])
  tab-more zero f = refl
  tab-more (suc n) f = ap {B = List A} (λ r. f zero ∷ r) (tab-more n (λ k. f (suc k)))

  pub tab-get_or : (l : List A) (z : A) → l ≡ tab (length l) (λ i. get_or l i z)
  tab-get_or [] z = refl
  tab-get_or (x ∷ l) z = ap {B = List A} (λ r. x ∷ r) (tab-get_or l z)

module _ {ℓ κ} {A : Type ℓ} {B : Type κ} where
  pub map-tab : (g : A → B) (n : ℕ) (f : ℕ → A) → map g (tab n f) ≡ tab n (λ i. g (f i))
  map-tab g zero f = refl
  map-tab g (suc n) f = ap {B = List B} (λ r. g (f zero) ∷ r) (map-tab g n (λ k. f (suc k)))

pub list-tab {ℓ} : {A : Type ℓ} (n : ℕ) (l : List A) (f : ℕ → A) (z : A) → length l ≡ n → ((i : ℕ) → i < n → get_or l i z ≡ f i) → l ≡ tab n f
list-tab n l f z e h = tab-get_or l z ∙ rw e (tab-ext n (λ i. get_or l i z) f h)
