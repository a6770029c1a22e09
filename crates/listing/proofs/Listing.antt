-- The listing of what completes a prefix, over any test `ok` behind a prefix: it holds exactly that, it rises, and its length is the count. Assumes nothing.
use mathlib.Core.Path.{◌≡◌, refl, sym, ap, subst, ◌∙◌}
use mathlib.Core.Bool.{Bool, true}
use mathlib.Core.List.Memᴰ.{append_cases as has-append}
use mathlib.Core.List.Memᴰ.{append_left as Has-left}
use mathlib.Core.List.Memᴰ.{append_right as Has-right}
use mathlib.Core.List.Memᴰ.{cases_cons as has-cons}
use mathlib.Core.List.Memᴰ.{head as top}
use mathlib.Core.List.Memᴰ.{not-nil as has-nil}
use mathlib.Core.List.Memᴰ.{tail as under}
use mathlib.Core.List.{List, [], ◌∷◌, ◌++◌, append-nil, Memᴰ as Has}
use Prim.Native.Nat.{ℕ, zero, suc, ◌+◌, ◌≤◌, ◌<◌}
use native.Mathlib.Omega.{arith}
use lib.ListN.{length, take, get_or, length-append}
use lib.Seq.{append_snoc}
use Rattle.words.specs.Lists.{each, keep, joined, sum, run}
use Rattle.words.specs.Least.{before}
use Rattle.words.specs.Listing.{more, values, listing, count_from}
use Rattle.words.proofs.Lists.{which, either, not_both, In, here, there, keep_in, keep_out}
use Rattle.words.proofs.Places.{run_in, run_out}
use Rattle.listing.specs.Sets.{Completes, Rising, Lists}
use Rattle.words.proofs.Order.{before_head, before_tail, before_self}

-- each number is below those behind it
unfoldable pub Up : List ℕ → Type 0
Up [] = Unit
Up (x ∷ l) = ((m : ℕ) → In m l → x < m) × Up l

run_up : (c n : ℕ) → Up (run c n)
unfolding Up run
run_up c zero = tt
run_up c (suc n) = ((λ m i. (run_out (suc c) n m i).0), run_up (suc c) n)

keep_up : (p : ℕ → Bool) (l : List ℕ) → Up l → Up (keep p l)
unfolding Up keep
keep_up p [] u = tt
keep_up p (x ∷ l) u = either (which (p x))
    (λ t. rw t ((λ m i. u.0 m (keep_out p l m i).0), keep_up p l u.1))
    (λ f. rw f (keep_up p l u.1))

-- in a list that rises no array comes twice
pub rising_once : (x : List ℕ) (l : List (List ℕ)) → Rising (x ∷ l) → Has x l → ⊥
unfolding Rising
rising_once x l r i = not_both (r.0 x i) (before_self x)

rising_append : (k l : List (List ℕ)) → Rising k → Rising l → ((x y : List ℕ) → Has x k → Has y l → before x y ≡ true) → Rising (k ++ l)
unfolding Rising
rising_append [] l r s h = s
rising_append (x ∷ k) l r s h = (
  λ y i. either (has-append k i) (r.0 y) (h x y (top refl)),
  rising_append k l r.1 s (λ a b i j. h a b (under i) j),
)

-- the arrays of l with one more number in front
unfoldable fronted : ℕ → List (List ℕ) → List (List ℕ)
fronted m l = each (λ c. m ∷ c) l

has_fronted : {c : List ℕ} (m : ℕ) (l : List (List ℕ)) → Has c l → Has (m ∷ c) (fronted m l)
unfolding fronted each
has_fronted m [] i = absurd (has-nil i)
has_fronted m (x ∷ l) i = either (has-cons i) (λ e. top (ap (λ (c : List ℕ). m ∷ c) e)) (λ j. under (has_fronted m l j))

fronted_out : (m : ℕ) (l : List (List ℕ)) (x : List ℕ) → Has x (fronted m l) → (c : List ℕ) × (x ≡ m ∷ c) × Has c l
unfolding fronted each
fronted_out m [] x i = absurd (has-nil i)
fronted_out m (c ∷ l) x i = either (has-cons i) (λ e. (c, e, top refl)) (λ j. let (d, e, k) = fronted_out m l x j in (d, e, under k))

fronted_rising : (m : ℕ) (l : List (List ℕ)) → Rising l → Rising (fronted m l)
unfolding fronted each Rising
fronted_rising m [] r = tt
fronted_rising m (c ∷ l) r = (
  λ y i. let (d, e, k) = fronted_out m l y i in subst (λ (z : List ℕ). before (m ∷ c) z ≡ true) (sym e) (before_tail m m c d refl ∙ r.0 d k),
  fronted_rising m l r.1,
)

fronted_length : (m : ℕ) (l : List (List ℕ)) → length (fronted m l) ≡ length l
unfolding fronted each
fronted_length m [] = refl
fronted_length m (c ∷ l) = ap suc (fronted_length m l)

-- for each number of l the arrays that f gives for it, with the number in front
module _ (f : ℕ → List (List ℕ)) where
  unfoldable branches : List ℕ → List (List ℕ)
  branches l = joined (each (λ m. each (λ c. m ∷ c) (f m)) l)

  has_branches : {m : ℕ} {c : List ℕ} {l : List ℕ} → In m l → Has c (f m) → Has (m ∷ c) (branches l)
  unfolding branches joined each fronted
  has_branches {m} {c} (here {l}) i = Has-left (branches l) (has_fronted m (f m) i)
  has_branches {m} {c} (there {x} {l} j) i = Has-right (fronted x (f x)) (has_branches j i)

  branches_out : (l : List ℕ) (x : List ℕ) → Has x (branches l) → (m : ℕ) × In m l × (c : List ℕ) × (x ≡ m ∷ c) × Has c (f m)
  unfolding branches joined each fronted
  branches_out [] x i = absurd (has-nil i)
  branches_out (m ∷ l) x i = either (has-append (fronted m (f m)) i)
      (λ j. let (c, e, k) = fronted_out m (f m) x j in (m, here, c, e, k))
      (λ j. let (k, s, c, e, h) = branches_out l x j in (k, there s, c, e, h))

  branches_rising : (l : List ℕ) → Up l → ((m : ℕ) → Rising (f m)) → Rising (branches l)
  unfolding branches joined each fronted Rising Up
  branches_rising [] u r = tt
  branches_rising (m ∷ l) u r = rising_append (fronted m (f m)) (branches l) (fronted_rising m (f m) (r m)) (branches_rising l u.1 r)
      (λ x y i j. let (c, e, h) = fronted_out m (f m) x i in let (k, s, d, z, g) = branches_out l y j in
      subst (λ (t : List ℕ). before t y ≡ true) (sym e) (subst (λ (t : List ℕ). before (m ∷ c) t ≡ true) (sym z) (before_head m k c d (u.0 k s))))

  branches_length : (g : ℕ → ℕ) (l : List ℕ) → ((m : ℕ) → g m ≡ length (f m)) → sum (each g l) ≡ length (branches l)
  unfolding branches joined each fronted sum
  branches_length g [] h = refl
  branches_length g (m ∷ l) h = omega (arith, length-append (fronted m (f m)) (branches l), fronted_length m (f m), h m, branches_length g l h)

pub more_append : (p : List ℕ) (m : ℕ) (c : List ℕ) → more p m ++ c ≡ p ++ (m ∷ c)
unfolding more
more_append p m c = append_snoc p m c

pub more_length : (p : List ℕ) (m : ℕ) → length (more p m) ≡ suc (length p)
unfolding more
more_length p m = length-append p (m ∷ []) ∙ omega arith

module _ (ok : List ℕ → ℕ → Bool) where
  -- the values behind p: at most its length, and they pass
  pub values_in : (p : List ℕ) (m : ℕ) → m ≤ length p → ok p m ≡ true → In m (values ok p)
  unfolding values
  values_in p m l h = keep_in (ok p) (run_in 0 (suc (length p)) m (omega arith) (omega arith)) h

  pub values_out : (p : List ℕ) (m : ℕ) → In m (values ok p) → (m ≤ length p) × (ok p m ≡ true)
  unfolding values
  values_out p m i = let (j, h) = keep_out (ok p) (run 0 (suc (length p))) m i in (omega (arith, (run_out 0 (suc (length p)) m j).1), h)

  pub values_up : (p : List ℕ) → Up (values ok p)
  unfolding values
  values_up p = keep_up (ok p) (run 0 (suc (length p))) (run_up 0 (suc (length p)))

  -- one value more in front
  completes_cons : (p : List ℕ) (m : ℕ) (c : List ℕ) → m ≤ length p → ok p m ≡ true → Completes ok (more p m) c → Completes ok p (m ∷ c)
  completes_cons p m c l h k = record { low = low; passes = passes }
    where
      low : (i : ℕ) → i < length (m ∷ c) → get_or (m ∷ c) i 0 ≤ length p + i
      low zero b = omega arith
      low (suc i) b = omega (arith, k.low i (omega arith), more_length p m)

      passes : (i : ℕ) → i < length (m ∷ c) → ok (p ++ take i (m ∷ c)) (get_or (m ∷ c) i 0) ≡ true
      passes zero b = rw (append-nil p) h
      passes (suc i) b = rw (more_append p m (take i c)) at (k.passes i (omega arith))

  completes_out : (p : List ℕ) (m : ℕ) (c : List ℕ) → Completes ok p (m ∷ c) → (m ≤ length p) × (ok p m ≡ true) × Completes ok (more p m) c
  completes_out p m c k = (
    omega (arith, k.low 0 (omega arith)),
    rw (append-nil p) at (k.passes 0 (omega arith)),
    record {
      low = λ i b. omega (arith, k.low (suc i) (omega arith), more_length p m);
      passes = λ i b. rw (more_append p m (take i c)) (k.passes (suc i) (omega arith));
    },
  )

  pub listing_out : (r : ℕ) (p c : List ℕ) → Has c (listing ok r p) → Completes ok p c × (length c ≡ r)
  unfolding listing branches
  listing_out zero p c i = let e : c ≡ [] = either (has-cons i) (λ e. e) (λ j. absurd (has-nil j)) in
      (record { low = λ i b. absurd (omega (arith, ap length e)); passes = λ i b. absurd (omega (arith, ap length e)) }, ap length e)
  listing_out (suc r) p c i = let (m, s, d, e, h) = branches_out (λ k. listing ok r (more p k)) (values ok p) c i in
      let (l, t) = values_out p m s in let (q, n) = listing_out r (more p m) d h in
      (subst (λ (c : List ℕ). Completes ok p c) (sym e) (completes_cons p m d l t q), ap length e ∙ ap suc n)

  pub listing_in : (r : ℕ) (p c : List ℕ) → Completes ok p c → length c ≡ r → Has c (listing ok r p)
  unfolding listing branches
  listing_in zero p [] h l = top refl
  listing_in zero p (m ∷ c) h l = absurd (omega arith)
  listing_in (suc r) p [] h l = absurd (omega arith)
  listing_in (suc r) p (m ∷ c) h l = let (b, t, q) = completes_out p m c h in
      has_branches (λ k. listing ok r (more p k)) (values_in p m b t) (listing_in r (more p m) c q (omega arith))

  pub listing_rising : (r : ℕ) (p : List ℕ) → Rising (listing ok r p)
  unfolding listing branches Rising
  listing_rising zero p = ((λ y i. absurd (has-nil i)), tt)
  listing_rising (suc r) p = branches_rising (λ k. listing ok r (more p k)) (values ok p) (values_up p) (λ m. listing_rising r (more p m))

  pub listing_count : (r : ℕ) (p : List ℕ) → count_from ok r p ≡ length (listing ok r p)
  unfolding listing branches count_from
  listing_count zero p = refl
  listing_count (suc r) p = branches_length (λ k. listing ok r (more p k)) (λ m. count_from ok r (more p m)) (values ok p) (λ m. listing_count r (more p m))

  -- THE listing of the set P, where P is what completes the empty prefix
  pub lists : (P : List ℕ → Type 0) → ((e : List ℕ) → P e → Completes ok [] e) → ((e : List ℕ) → Completes ok [] e → P e) → (n : ℕ) → Lists P n (listing ok n [])
  lists P into out n = record {
    only = λ x i. let (h, l) = listing_out n [] x i in record { is = out x h; long = l };
    all = λ x h. listing_in n [] x (into x h.is) h.long;
    rises = listing_rising n [];
  }
