-- THE THEOREM on arrays that stand, for every A from 1 on: some row over A has the echoes exactly where every place passes, the verdict says so or names
-- the first bad place, and the rebuilt row is the least of the rows. The rebuilt row is the same for every A: `rebuilt` takes none. Assumes nothing.
use mathlib.Core.Path.{◌≡◌, refl, sym, ap, subst, ◌∙◌}
use mathlib.Core.Logic.{◌⊎◌}
use mathlib.Core.List.{List, [], ◌∷◌, ◌++◌}
use Prim.Native.Nat.{ℕ, zero, suc, ◌-◌, ◌≤◌, ◌<◌}
use native.Mathlib.Omega.{arith}
use lib.ListN.{length, take, length-append}
use lib.Seq.{length-take-le}
use Rattle.words.specs.Lists.{at}
use Rattle.words.specs.Rows.{card, Alike}
use Rattle.words.specs.Numbers.{DONE, IMPOSSIBLE, HIDDEN, FULL}
use Rattle.words.specs.Stand.{RowOf, Stands, opens, weighed, verdict}
use Rattle.words.specs.Least.{LeastRow, next_card, rebuilt}
use Rattle.words.proofs.Lists.{either, same?}
use Rattle.words.proofs.Order.{lowest_least}
use Rattle.arrays.specs.Steps.{Passes, Inside, Echoing, Breaks}
use Rattle.arrays.proofs.Rules.{passes_part}
use Rattle.arrays.proofs.Alike.{passes_alike}
use Rattle.words.proofs.Rows.{alike_refl, alike_sym, alike_take, alike_along}
use Rattle.arrays.proofs.Cards.{echo_echoing, echoing_part, echoing_alike, echoing_unique, row_passes}
use Rattle.arrays.proofs.Growth.{grow, grow_inside, lowest}
use Rattle.arrays.proofs.Reasons.{reason_in, reason_refused, reason_full}
use Rattle.arrays.proofs.Places.{card_before, card_last, over_inside, inside_over, echoes_alike, alike_echoes, judged, verdict_passes, passes_verdict}

-- what is known of the first n cards of the rebuilt row
record Built (A : ℕ) (E : ℕ → ℕ) (n : ℕ) (x : List ℕ) : Type 0 where
  long : length x ≡ n
  has : Echoing (card x) E n
  inside : Inside A (card x) n
  low : (Z : ℕ → ℕ) → Inside A Z n → Echoing Z E n → (k : ℕ) → k < n → Alike (card x) Z k → card x (suc k) ≤ Z (suc k)

built_none : (A : ℕ) (E : ℕ → ℕ) → Built A E 0 []
built_none A E = record {
  long = refl;
  has = record { step = λ i h. absurd (omega arith) };
  inside = record { letter = λ i h. absurd (omega arith) };
  low = λ Z i e k h. absurd (omega arith);
}

built_more : {A : ℕ} {E : ℕ → ℕ} (n : ℕ) (x : List ℕ) → 0 < A → weighed A E n (E (suc n)) ≡ DONE → Built A E n x
    → Built A E (suc n) (x ++ (next_card E (card x) n (E (suc n)) ∷ []))
built_more {A} {E} n x p w b =
    let c = next_card E (card x) n (E (suc n)) in
    let y = x ++ (c ∷ []) in
    let same : Alike (card x) (card y) n = subst (λ (k : ℕ). Alike (card x) (card y) k) b.long (card_before x c) in
    let new : card y (suc n) ≡ c = subst (λ (k : ℕ). card y (suc k) ≡ c) b.long (card_last x c) in
    record {
      long = omega (arith, length-append x (c ∷ []), b.long);
      has = grow A n same new b.has w;
      inside = grow_inside A n p same new b.inside b.has w;
      low = λ Z i e k h t. let u : Alike (card x) Z k = record { same = λ j l. same.same j (omega arith) ∙ t.same j l } in
          either (same? k n)
          (λ z. subst (λ (j : ℕ). card y (suc j) ≤ Z (suc j)) (sym z) (rw new (lowest n (subst (Alike (card x) Z) z u) i e)))
          (λ d. rw (← same.same k (omega arith))
          (b.low Z (record { letter = λ j l. i.letter j (omega arith) }) (echoing_part n (omega arith) e) k (omega arith) u));
    }

built : {A : ℕ} {E : ℕ → ℕ} (n : ℕ) → 0 < A → Passes A E n → Built A E n (rebuilt E n)
unfolding rebuilt
built {A} {E} zero p w = built_none A E
built {A} {E} (suc n) p w = built_more n (rebuilt E n) p (w.step n (omega arith)) (built n p (passes_part n (omega arith) w))

pub rebuilt_echoing : {A : ℕ} {E : ℕ → ℕ} (n : ℕ) → 0 < A → Passes A E n → Echoing (card (rebuilt E n)) E n
rebuilt_echoing n p w = (built n p w).has

-- a row with these echoes, by place
row_echoing : {A : ℕ} {e x : List ℕ} → RowOf A e x → Echoing (card x) (at e) (length e)
row_echoing {A} {e} {x} r = let (l, a) = echoes_alike x e r.has in echoing_alike (alike_refl (card x) (length e)) a (echo_echoing (card x) (length e))

row_inside : {A : ℕ} {e x : List ℕ} → RowOf A e x → Inside A (card x) (length e)
row_inside {A} {e} {x} r = let (l, a) = echoes_alike x e r.has in subst (λ (n : ℕ). Inside A (card x) n) l (over_inside A x r.inside)

pub stands_passes : {A : ℕ} {e : List ℕ} → Stands A e → Passes A (at e) (length e)
stands_passes s = row_passes (row_echoing s.is) (row_inside s.is)

-- an array whose places pass over A
module _ {A : ℕ} (pos : 0 < A) (e : List ℕ) (passes : Passes A (at e) (length e)) where
  made : Built A (at e) (length e) (rebuilt (at e) (length e))
  made = built (length e) pos passes

  rebuilt_row : RowOf A e (rebuilt (at e) (length e))
  rebuilt_row = let x = rebuilt (at e) (length e) in record {
    inside = inside_over A x (subst (λ (n : ℕ). Inside A (card x) n) (sym made.long) made.inside);
    has = alike_echoes x e made.long (echoing_unique (length e) (echo_echoing (card x) (length e)) made.has);
  }

  pub passes_stands : Stands A e
  passes_stands = record { row = rebuilt (at e) (length e); is = rebuilt_row }

  pub passes_least : LeastRow A e (rebuilt (at e) (length e))
  unfolding LeastRow card at
  passes_least = lowest_least (rebuilt (at e) (length e)) rebuilt_row
      (λ z r. (echoes_alike z e r.has).0 ∙ sym made.long)
      (record { least = λ z r l j a h s. made.low (card z) (row_inside r) (row_echoing r) j (omega (arith, made.long)) (alike_sym (alike_along z _ j s)) })

-- the verdict is done exactly if the array stands
pub stands_verdict : {A : ℕ} {e : List ℕ} → Stands A e → verdict A e ≡ (DONE, 0)
stands_verdict {A} {e} s = passes_verdict A e (stands_passes s)

pub verdict_stands : {A : ℕ} → 0 < A → (e : List ℕ) → verdict A e ≡ (DONE, 0) → Stands A e
verdict_stands {A} pos e v = passes_stands pos e (verdict_passes A e (ap (λ (t : ℕ × ℕ). t.0) v))

-- the rebuilt row of an array that stands is the least
pub rebuilt_least : {A : ℕ} {e : List ℕ} → 0 < A → Stands A e → LeastRow A e (rebuilt (at e) (length e))
rebuilt_least {A} {e} pos s = passes_least pos e (stands_passes s)

-- a prefix of an array stands exactly if its places pass
pub prefix_stands : {A : ℕ} → 0 < A → (e : List ℕ) (k : ℕ) → k ≤ length e → Passes A (at e) k → Stands A (take k e)
prefix_stands {A} pos e k h p =
    passes_stands pos (take k e) (subst (λ (n : ℕ). Passes A (at (take k e)) n) (sym (length-take-le k e h)) (passes_alike (alike_take e k) p))

pub prefix_passes : {A : ℕ} (e : List ℕ) (k : ℕ) → k ≤ length e → Stands A (take k e) → Passes A (at e) k
prefix_passes {A} e k h s =
    passes_alike (alike_sym (alike_take e k)) (subst (λ (n : ℕ). Passes A (at (take k e)) n) (length-take-le k e h) (stands_passes s))

-- else it names the first place whose prefix does not stand
pub verdict_breaks : {A : ℕ} → 0 < A → (e : List ℕ) (w p : ℕ) → verdict A e ≡ (w, p) → (w ≡ DONE → ⊥) → Breaks A e w p
verdict_breaks {A} pos e w p v d = either (judged A e)
    (λ q. absurd (d (ap (λ (t : ℕ × ℕ). t.0) (sym v ∙ q.0))))
    (λ b. let z : (w, p) ≡ (weighed A (at e) b.behind (at e (suc b.behind)), suc b.behind) = sym v ∙ b.says in
    let q : p ≡ suc b.behind = ap (λ (t : ℕ × ℕ). t.1) z in
    let r : p - 1 ≡ b.behind = omega arith in
    let l = b.within in
    record {
      place = omega arith;
      within = omega arith;
      before = prefix_stands pos e (p - 1) (omega arith) (rw r b.passes);
      breaks = λ s. b.bad ((prefix_passes e p (omega arith) s).step b.behind (omega arith));
      reason = reason_in A (at e) (p - 1) (at e p) w (rw (r, q) (sym (ap (λ (t : ℕ × ℕ). t.0) z)));
      refused = d;
    })

-- its number is 5, 6 or 7, each for its reason (`Reason`); with 7 exactly A values are open
pub bad_number : {A : ℕ} {e : List ℕ} {w p : ℕ} → Breaks A e w p → (w ≡ IMPOSSIBLE) ⊎ ((w ≡ HIDDEN) ⊎ (w ≡ FULL))
bad_number b = reason_refused b.reason b.refused

pub bad_full : {A : ℕ} {e : List ℕ} {p : ℕ} → 0 < A → Breaks A e FULL p → (at e p ≡ 0) × (length (opens (at e) (at e (p - 1))) ≡ A)
bad_full {A} {e} {p} pos b = let l = b.within in reason_full pos (prefix_passes e (p - 1) (omega arith) b.before) b.reason refl
