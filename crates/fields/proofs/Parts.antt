-- Texts put one behind the other, each into the part from the current end onward. Assumes nothing.
use mathlib.Core.Path.{◌≡◌, refl, sym, ap, subst, ◌∙◌}
use mathlib.Core.List.{List, [], ◌++◌, append_assoc, append-nil}
use Prim.Native.Nat.{ℕ, ◌+◌, ◌-◌, ◌≤◌}
use native.Mathlib.Omega.{arith}
use lib.ListN.{length, take, drop, length-append, length-drop, drop_of_length-le}
use lib.Seq.{take-append_seam, drop-append_seam, drop-drop, take_all, length-take-le}
use borrow.Rule.Slice.PartMut.{mid_of, put_mid}
use Rattle.fields.specs.Writing.{Put, Begun}

-- the part from k on, and the whole once it is back
part_is : (k : ℕ) (l : List ℕ) → mid_of k (length l - k) l ≡ drop k l
part_is k l = take_all (length l - k) (drop k l) (omega (arith, length-drop k l))

whole_is : (k : ℕ) (l new : List ℕ) → put_mid k (length l - k) l new ≡ take k l ++ new
whole_is k l new = ap (λ (e : List ℕ). take k l ++ (new ++ e)) (drop_of_length-le (drop k l) {i = length l - k} (omega (arith, length-drop k l))) ∙ ap (λ (e : List ℕ). take k l ++ e) (append-nil new)

pub part_long : (k : ℕ) (l : List ℕ) → length (mid_of k (length l - k) l) ≡ length l - k
part_long k l = ap length (part_is k l) ∙ length-drop k l

module _ (s old mid : List ℕ) (k : ℕ) (p : Put s old mid k) where
  put_take : take k mid ≡ s
  put_take = ap (take k) p.text ∙ ap (λ (m : ℕ). take m (s ++ drop k old)) p.count ∙ take-append_seam s (drop k old)

  put_drop : drop k mid ≡ drop k old
  put_drop = ap (drop k) p.text ∙ ap (λ (m : ℕ). drop m (s ++ drop k old)) p.count ∙ drop-append_seam s (drop k old)

  -- the next text, put into the part from k on
  pub put_then : (t whole new : List ℕ) (j : ℕ) → Put t (mid_of k (length mid - k) mid) new j → whole ≡ s ++ t → Put whole old (put_mid k (length mid - k) mid new) (k + j)
  put_then t whole new j q e = record {
    count = omega (arith, p.count, q.count, length-append s t, ap length e);
    within = omega (arith, p.within, p.long, q.within, part_long k mid);
    long = ap length (whole_is k mid new) ∙ length-append (take k mid) new
        ∙ omega (arith, length-take-le k mid (omega (arith, p.within, p.long)), q.long, part_long k mid, p.within, p.long);
    text = whole_is k mid new
        ∙ ap (λ (l : List ℕ). l ++ new) put_take
        ∙ ap (λ (l : List ℕ). s ++ l) (q.text ∙ ap (λ (l : List ℕ). t ++ l) (ap (drop j) (part_is k mid ∙ put_drop) ∙ drop-drop j k old))
        ∙ sym (append_assoc s t (drop (k + j) old)) ∙ ap (λ (l : List ℕ). l ++ drop (k + j) old) (sym e);
  }

  -- and the room it finds there
  pub put_room : (t whole : List ℕ) → length whole ≤ length old → whole ≡ s ++ t → length t ≤ length (mid_of k (length mid - k) mid)
  put_room t whole h e = omega (arith, part_long k mid, ap length e, length-append s t, p.count, p.long)

-- a text in many parts: what is left to come
module _ (whole rest old mid : List ℕ) (k : ℕ) (b : Begun whole rest old mid k) where
  -- the next part t: its room, and what is left behind it
  pub begun_room : (t behind : List ℕ) → rest ≡ t ++ behind → length whole ≤ length old → length t ≤ length (mid_of k (length mid - k) mid)
  begun_room t behind e h = omega (arith, part_long k mid, b.put.count, b.put.long, ap length b.split, length-append b.done rest, ap length e, length-append t behind)

  pub begun_more : (t behind new : List ℕ) (j : ℕ) → rest ≡ t ++ behind → Put t (mid_of k (length mid - k) mid) new j → Begun whole behind old (put_mid k (length mid - k) mid new) (k + j)
  begun_more t behind new j e q = record {
    done = b.done ++ t;
    split = b.split ∙ ap (λ (l : List ℕ). b.done ++ l) e ∙ sym (append_assoc b.done t behind);
    put = put_then b.done old mid k b.put t (b.done ++ t) new j q refl;
  }

  -- the last part
  pub begun_last : (new : List ℕ) (j : ℕ) → Put rest (mid_of k (length mid - k) mid) new j → Put whole old (put_mid k (length mid - k) mid new) (k + j)
  begun_last new j q = put_then b.done old mid k b.put rest whole new j q b.split

  -- nothing is left
  pub begun_done : rest ≡ [] → Put whole old mid k
  begun_done e = subst (λ (t : List ℕ). Put t old mid k) (sym (b.split ∙ ap (λ (l : List ℕ). b.done ++ l) e ∙ append-nil b.done)) b.put
