-- A list of a set gives its least array, the next of each, and THE walk: from the first array on, the steps visit the list and end. Over any set P.
-- Assumes nothing.
use mathlib.Core.Path.{◌≡◌, refl, sym, ap, subst, ◌∙◌}
use mathlib.Core.Bool.{Bool, true, false}
use mathlib.Core.List.Memᴰ.{cases_cons as has-cons}
use mathlib.Core.List.Memᴰ.{head as top}
use mathlib.Core.List.Memᴰ.{not-nil as has-nil}
use mathlib.Core.List.Memᴰ.{tail as under}
use mathlib.Core.List.{List, [], ◌∷◌, ◌++◌, append-nil, Memᴰ as Has}
use Prim.Native.Nat.{ℕ}
use lib.Dec.{eqb}
use lib.ListN.{length}
use borrow.Author.Tests.{eqb-true, eq-eqb}
use Rattle.words.specs.Lists.{equal}
use Rattle.words.specs.Least.{Least}
use Rattle.words.specs.Listing.{listing, count_from, head, behind}
use Rattle.words.proofs.Lists.{which, either, not_both}
use Rattle.listing.specs.Sets.{Completes, Rising, Sized, After, Lists, Trail, ends, steps, Stepping, Visits, Opening}
use Rattle.words.proofs.Order.{before_self, before_trans, before_asym, least_one, least_alike}
use Rattle.listing.proofs.Listing.{lists, listing_count}

pub equal_true : (x y : List ℕ) → equal x y ≡ true → x ≡ y
unfolding equal
equal_true [] [] h = refl
equal_true [] (b ∷ y) h = absurd (not_both h refl)
equal_true (a ∷ x) [] h = absurd (not_both h refl)
equal_true (a ∷ x) (b ∷ y) h = either (which (eqb a b))
    (λ t. let e = eqb-true a b t in let r = equal_true x y (rw t at h) in cc)
    (λ f. let z : false ≡ true = rw f at h in absurd (not_both z refl))

pub equal_self : (x : List ℕ) → equal x x ≡ true
unfolding equal
equal_self [] = refl
equal_self (a ∷ x) = rw (eq-eqb a a refl) (equal_self x)

-- a walk by other steps to another end
pub trail_alike : {R S : List ℕ → List ℕ → Type 0} {E F : List ℕ → Type 0} {x : List ℕ} {T : List (List ℕ)}
    → ((x y : List ℕ) → R x y → S x y) → ((x : List ℕ) → E x → F x) → Trail R E x T → Trail S F x T
trail_alike f g (ends e) = ends (g _ e)
trail_alike f g (steps r t) = steps (f _ _ r) (trail_alike f g t)

lists_alike : {P Q : List ℕ → Type 0} {n : ℕ} {L : List (List ℕ)} → ((z : List ℕ) → P z → Q z) → ((z : List ℕ) → Q z → P z) → Lists P n L → Lists Q n L
lists_alike into out s = record {
  only = λ z i. let h = s.only z i in record { is = into z h.is; long = h.long };
  all = λ z h. s.all z (record { is = out z h.is; long = h.long });
  rises = s.rises;
}

module _ {P : List ℕ → Type 0} {n : ℕ} where
  -- the head of a list of P is the least of P, and the empty list has none of P
  pub lists_first : {f : List ℕ} {M : List (List ℕ)} → Lists P n (f ∷ M) → Least (Sized P n) f
  unfolding Rising
  lists_first {f} {M} s = record {
    is = s.only f (top refl);
    none = λ z h. either (has-cons (s.all z h)) (λ e. rw e (before_self f)) (λ i. before_asym f z (s.rises.0 z i));
  }

  pub lists_none : Lists P n [] → (z : List ℕ) → Sized P n z → ⊥
  lists_none s z h = has-nil (s.all z h)

  -- what is behind the head lists what is greater
  lists_rest : {x : List ℕ} {M : List (List ℕ)} → Lists P n (x ∷ M) → Lists (After P x) n M
  unfolding Rising
  lists_rest {x} {M} s = record {
    only = λ z i. let h = s.only z (under i) in
        record { is = record { is = h.is; long = h.long ∙ sym (s.only x (top refl)).long; greater = s.rises.0 z i }; long = h.long };
    all = λ z h. either (has-cons (s.all z (record { is = h.is.is; long = h.long })))
        (λ e. absurd (not_both (rw e at h.is.greater) (before_self x)))
        (λ i. i);
    rises = s.rises.1;
  }

-- greater than y among those that are greater than x, where y is one of them: greater than y
after_after : {P : List ℕ → Type 0} {x y : List ℕ} {n : ℕ} {M : List (List ℕ)} → After P x y → Lists (After (After P x) y) n M → Lists (After P y) n M
after_after {P} {x} {y} h s = lists_alike
    (λ z a. record { is = a.is.is; long = a.long; greater = a.greater })
    (λ z a. record { is = record { is = a.is; long = a.long ∙ h.long; greater = before_trans x y z h.greater a.greater }; long = a.long; greater = a.greater })
    s

lists_head : {P : List ℕ → Type 0} {x y : List ℕ} {n : ℕ} {M : List (List ℕ)} → Lists (After P x) n (y ∷ M) → Sized P n y
lists_head {y = y} s = let h = s.only y (top refl) in record { is = h.is.is; long = h.long }

lists_on : {P : List ℕ → Type 0} {x y : List ℕ} {n : ℕ} {M : List (List ℕ)} → Lists (After P x) n (y ∷ M) → Lists (After P y) n M
lists_on s = after_after (s.only _ (top refl)).is (lists_rest s)

-- what a list of P has behind e lists those that are greater than e
pub lists_behind : (P : List ℕ → Type 0) (n : ℕ) (e : List ℕ) (L : List (List ℕ)) → Lists P n L → Sized P n e → Lists (After P e) n (behind e L)
unfolding behind
lists_behind P n e [] s h = absurd (lists_none s e h)
lists_behind P n e (x ∷ M) s h = let r = lists_rest s in either (which (equal e x))
    (λ t. rw t (subst (λ (y : List ℕ). Lists (After P y) n M) (sym (equal_true e x t)) r))
    (λ f. let a = r.only e (later f) in rw f (after_after a.is (lists_behind (After P x) n e M r a)))
  where
    later : equal e x ≡ false → Has e M
    later f = either (has-cons (s.all e h)) (λ q. absurd (not_both (subst (λ (k : List ℕ). equal e k ≡ true) q (equal_self e)) f)) (λ i. i)

module _ {P : List ℕ → Type 0} {n : ℕ} {e : List ℕ} (h : Sized P n e) where
  sized_after : {z : List ℕ} → After P e z → Sized (After P e) n z
  sized_after a = record { is = a; long = a.long ∙ h.long }

  -- the first of a list of those that are greater than e is the next of e
  pub after_first : {f : List ℕ} {M : List (List ℕ)} → Lists (After P e) n (f ∷ M) → Least (After P e) f
  after_first s = least_alike (λ z q. q.is) (λ z a. sized_after a) (lists_first s)

  pub after_none : Lists (After P e) n [] → (z : List ℕ) → After P e z → ⊥
  after_none s z a = lists_none s z (sized_after a)

  module _ (L : List (List ℕ)) (s : Lists P n L) where
    pub head_least : Least (Sized P n) (head L)
    unfolding head
    head_least = go L s
      where
        go : (L : List (List ℕ)) → Lists P n L → Least (Sized P n) (head L)
        go [] s = absurd (lists_none s e h)
        go (f ∷ M) s = lists_first s

    pub behind_least : (f : List ℕ) (M : List (List ℕ)) → behind e L ≡ f ∷ M → Least (After P e) f
    behind_least f M b = after_first (rw b at (lists_behind P n e L s h))

    pub behind_none : behind e L ≡ [] → (z : List ℕ) → After P e z → ⊥
    behind_none b = after_none (rw b at (lists_behind P n e L s h))

module _ {P : List ℕ → Type 0} {n : ℕ} {R : List ℕ → List ℕ → Type 0} {E : List ℕ → Type 0} (by : Stepping P n R E) where
  walk_on : (x : List ℕ) (M : List (List ℕ)) → Sized P n x → Lists (After P x) n M → Trail R E x (x ∷ M)
  walk_on x [] h s = ends (by.stops x h (after_none h s))
  walk_on x (y ∷ M) h s = steps (by.whole x y h (after_first h s)) (walk_on y M (lists_head s) (lists_on s))

  -- steps from x on, whatever they end by, visit an opening of what x and those behind it are
  walk_part : {F : List ℕ → Type 0} (x : List ℕ) (M T : List (List ℕ)) → Sized P n x → Lists (After P x) n M → Trail R F x T → Opening P n F (x ∷ M) T
  walk_part x [] _ h s (ends e) = record { last = x; rest = []; split = refl; is = h; ends = e; behind = s }
  walk_part x (y ∷ M) _ h s (ends e) = record { last = x; rest = y ∷ M; split = refl; is = h; ends = e; behind = s }
  walk_part x [] _ h s (steps {y = z} r t) = absurd (after_none h s z (by.sound x z h r).is)
  walk_part {F} x (y ∷ M) _ h s (steps {y = z} {T = T} r t) =
      let e : y ≡ z = least_one (after_first h s) (by.sound x z h r) in
      let o = walk_part y M T (lists_head s) (lists_on s) (subst (λ (k : List ℕ). Trail R F k T) (sym e) t) in
      record { last = o.last; rest = o.rest; split = ap (λ (l : List (List ℕ)). x ∷ l) o.split; is = o.is; ends = o.ends; behind = o.behind }

  -- where they end by E nothing is left
  walk_one : (x : List ℕ) (M T : List (List ℕ)) → Sized P n x → Lists (After P x) n M → Trail R E x T → T ≡ x ∷ M
  walk_one x M T h s t = let o = walk_part x M T h s t in
      sym (o.split ∙ ap (λ (K : List (List ℕ)). T ++ K) (none o.rest o.behind (by.last o.last o.is o.ends)) ∙ append-nil T)
    where
      none : {y : List ℕ} (K : List (List ℕ)) → Lists (After P y) n K → ((z : List ℕ) → After P y z → ⊥) → K ≡ []
      none [] l d = refl
      none (z ∷ K) l d = absurd (d z (l.only z (top refl)).is)

  -- from the first array on, the steps to the next visit the list of P, each array once, and end
  pub walk : (f : List ℕ) (L : List (List ℕ)) → Lists P n L → Least (Sized P n) f → Visits R E f L
  walk f [] s h = absurd (lists_none s f h.is)
  walk f (x ∷ M) s h = subst (λ (k : List ℕ). Visits R E k (x ∷ M)) (least_one (lists_first s) h) (record {
    trail = walk_on x M (s.only x (top refl)) (lists_rest s);
    one = λ T t. walk_one x M T (s.only x (top refl)) (lists_rest s) t;
  })

  -- and as long as they do not end they visit an opening of it
  pub walk_opens : {F : List ℕ → Type 0} (f : List ℕ) (L T : List (List ℕ)) → Lists P n L → Least (Sized P n) f → Trail R F f T → Opening P n F L T
  walk_opens f [] T s h t = absurd (lists_none s f h.is)
  walk_opens {F} f (x ∷ M) T s h t = walk_part x M T (s.only x (top refl)) (lists_rest s) (subst (λ (k : List ℕ). Trail R F k T) (least_one h (lists_first s)) t)

  -- THE theorem: where P is what completes the empty prefix, they visit the listing, which holds exactly the arrays of P with n places; they are as many as the count
  pub walk_listing : (ok : List ℕ → ℕ → Bool) → ((e : List ℕ) → P e → Completes ok [] e) → ((e : List ℕ) → Completes ok [] e → P e) → (f : List ℕ) → Least (Sized P n) f
      → Visits R E f (listing ok n []) × Lists P n (listing ok n []) × (count_from ok n [] ≡ length (listing ok n []))
  walk_listing ok into out f h = let s = lists ok P into out n in (walk f (listing ok n []) s h, s, listing_count ok n [])
