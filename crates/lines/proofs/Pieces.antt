-- What the state holds one byte and one piece further: a lemma for each way out of the code. Assumes nothing.
use mathlib.Core.Path.{◌≡◌, refl, sym, ap, subst, ◌∙◌}
use mathlib.Core.Bool.{Bool, true, false}
use mathlib.Core.List.{List, [], ◌∷◌, ◌++◌}
use Prim.Native.Nat.{ℕ, ◌+◌, ◌-◌, ◌*◌, ◌≤◌, ◌<◌, min}
use native.Mathlib.Omega.{arith}
use lib.Dec.{leb, eqb, ltb}
use lib.ListN.{length, length-append}
use lib.Seq.{take-nil}
use borrow.Author.Tests.{eqb-true, eqb-false, ltb-true, ltb-false, lt-ltb, le-ltb}
use Rattle.std.specs.Char.{is_ascii_digit}
use Rattle.std.specs.Prelude.{Result, Ok, Err}
use Rattle.words.specs.Numbers.{ALPHABET}
use Rattle.words.specs.Sheet.{value}
use Rattle.words.specs.declared.Reason.{Reason}
use Rattle.words.specs.declared.Reason.TheVariants.{Alphabet}
use Rattle.lines.specs.Line.{TAB, END, until, past, count, line_of, digit, meaning}
use Rattle.lines.specs.Taking.{figures, told_of, Shown, Stored, Taken, gave, Read, Starts, Counts, Grows, Stores, Takes, Reads, Means, Tells}
use Rattle.lines.specs.declared.Figures.{Figures}
use Rattle.lines.specs.declared.State.{State}
use Rattle.lines.specs.declared.Line.{Line}
use Rattle.words.proofs.Lists.{which, either, not_both}
use Rattle.words.specs.Lists.{both}
use Rattle.words.proofs.Decimal.{value_snoc}
use Rattle.lines.proofs.Lines.{count_more, count_one, count_other, until_met, until_here, until_snoc, past_met, past_open, figures_nil, figures_digit, figures_many, figures_other, numeral_yes, numeral_out, meaning_good, meaning_tabs, meaning_field}

-- a digit, as the code tests it
digit_is : (b : ℕ) → digit b ≡ is_ascii_digit b
unfolding digit both
digit_is b = either (which (leb 48 b)) (λ t. rw t) (λ f. rw f)

pub digit_tested : (b : ℕ) (t : Bool) → t ≡ is_ascii_digit b → t ≡ digit b
digit_tested b t e = e ∙ sym (digit_is b)

-- one byte of the field
module _ (b : ℕ) (f : Figures) where
  pub grows_digit : (t : Bool) → f.digits < 2 → t ≡ digit b → t ≡ true → Grows b f (record { digits = f.digits + 1; tens = f.ones; ones = b - 48 })
  grows_digit t h e d = record {
    more = λ l s. record {
      digits = omega (arith, s.digits, figures_digit l b (omega (arith, s.digits)) (sym e ∙ d));
      whole = λ k. omega (arith, value_snoc 0 l b, s.whole (omega arith), s.short h);
      short = λ k. s.empty (omega arith);
      empty = λ k. absurd (omega arith);
    };
  }

  no_number : ((l : List ℕ) → Shown l f → figures (l ++ (b ∷ [])) ≡ 3) → Grows b f (record { digits = 3; tens = f.tens; ones = f.ones })
  no_number h = record {
    more = λ l s. record {
      digits = sym (h l s);
      whole = λ k. absurd (omega arith);
      short = λ k. absurd (omega arith);
      empty = λ k. absurd (omega arith);
    };
  }

  pub grows_other : (t : Bool) → t ≡ digit b → t ≡ false → Grows b f (record { digits = 3; tens = f.tens; ones = f.ones })
  grows_other t e d = no_number (λ l s. figures_other l b (sym e ∙ d))

  pub grows_many : 2 ≤ f.digits → Grows b f (record { digits = 3; tens = f.tens; ones = f.ones })
  grows_many h = no_number (λ l s. figures_many l b (omega (arith, s.digits)))

-- one byte, of the tabs
pub counts_other : (b tabs : ℕ) → (b ≡ TAB → ⊥) → Counts b tabs tabs
counts_other b tabs d = record { more = λ m e. omega (arith, count_other TAB b d) }

pub counts_first : (b tabs : ℕ) → b ≡ TAB → tabs ≡ 0 → Counts b tabs 1
counts_first b tabs e z = record { more = λ m h. omega (arith, count_one TAB b e) }

pub counts_more : (b tabs : ℕ) → b ≡ TAB → (tabs ≡ 0 → ⊥) → Counts b tabs 2
counts_more b tabs e d = record { more = λ m h. omega (arith, count_one TAB b e) }

-- the state of an input whose line is known
held : (input line : List ℕ) (s : State) (buf : List ℕ) → line ≡ line_of input → s.ended ≡ ltb 0 (count END input) → s.tabs ≡ min 2 (count TAB line)
    → Shown (until TAB line) s.field → Stored (past TAB line) s.length buf → Taken input s buf
held input line s buf e d t f r = record {
  ended = d;
  tabs = t ∙ ap (λ (l : List ℕ). min 2 (count TAB l)) e;
  field = subst (λ (l : List ℕ). Shown (until TAB l) s.field) e f;
  row = subst (λ (l : List ℕ). Stored (past TAB l) s.length buf) e r;
}

-- one byte: behind byte 10 nothing counts
module _ (b : ℕ) (s : State) (buf : List ℕ) where
  pub takes_ended : s.ended ≡ true → Takes (b ∷ []) s buf s buf
  unfolding line_of
  takes_ended e = record {
    more = λ input h.
        let some = ltb-true 0 (count END input) (sym h.ended ∙ e) in
        held (input ++ (b ∷ [])) (line_of input) s buf (sym (until_met END input (b ∷ []) (λ z. omega arith)))
        (e ∙ sym (lt-ltb 0 (count END (input ++ (b ∷ []))) (omega (arith, count_more END input (b ∷ [])))))
        h.tabs h.field h.row;
  }

  module _ (going : s.ended ≡ false) where
    none : (input : List ℕ) → Taken input s buf → count END input ≡ 0
    none input h = omega (arith, ltb-false 0 (count END input) (sym h.ended ∙ going))

    pub takes_end : b ≡ END → Takes (b ∷ []) s buf (record { ended = true; tabs = s.tabs; field = s.field; length = s.length }) buf
    unfolding line_of
    takes_end e = record {
      more = λ input h.
          held (input ++ (b ∷ [])) (line_of input) _ buf (sym (until_here END input b [] e))
          (sym (lt-ltb 0 (count END (input ++ (b ∷ []))) (omega (arith, count_more END input (b ∷ []), count_one END b e))))
          h.tabs h.field h.row;
    }

    module _ (inside : b ≡ END → ⊥) (k : ℕ) (tabs : Counts b s.tabs k) where
      -- a byte of the line: what is left to show of the field and the row
      byte : (f : Figures) (n : ℕ) (new : List ℕ)
          → ((l : List ℕ) → s.tabs ≡ min 2 (count TAB l) → Shown (until TAB l) s.field → Shown (until TAB (l ++ (b ∷ []))) f)
          → ((l : List ℕ) → s.tabs ≡ min 2 (count TAB l) → Stored (past TAB l) s.length buf → Stored (past TAB (l ++ (b ∷ []))) n new)
          → Takes (b ∷ []) s buf (record { ended = s.ended; tabs = k; field = f; length = n }) new
      unfolding line_of
      byte f n new p q = record {
        more = λ input h.
            held (input ++ (b ∷ [])) (line_of input ++ (b ∷ [])) _ new (sym (until_snoc END input b (none input h) inside))
            (going ∙ sym (le-ltb 0 (count END (input ++ (b ∷ []))) (omega (arith, none input h, count_more END input (b ∷ []), count_other END b inside))))
            (tabs.more (count TAB (line_of input)) h.tabs ∙ ap (min 2) (sym (count_more TAB (line_of input) (b ∷ []))))
            (p (line_of input) h.tabs h.field)
            (q (line_of input) h.tabs h.row);
      }

      pub takes_row : 0 < s.tabs → (n : ℕ) (new : List ℕ) → Stores b s.length buf n new
          → Takes (b ∷ []) s buf (record { ended = s.ended; tabs = k; field = s.field; length = n }) new
      takes_row t n new g = byte s.field n new
          (λ l e h. subst (λ (m : List ℕ). Shown m s.field) (sym (until_met TAB l (b ∷ []) (λ z. omega arith))) h)
          (λ l e h. subst (λ (m : List ℕ). Stored m n new) (sym (past_met TAB l (b ∷ []) (λ z. omega arith))) (g.more (past TAB l) h))

      module _ (first : s.tabs ≤ 0) where
        still : (l : List ℕ) → s.tabs ≡ min 2 (count TAB l) → Stored (past TAB l) s.length buf → Stored (past TAB (l ++ (b ∷ []))) s.length buf
        still l e h = subst (λ (m : List ℕ). Stored m s.length buf) (sym (past_open TAB l b (omega arith))) h

        pub takes_tab : b ≡ TAB → Takes (b ∷ []) s buf (record { ended = s.ended; tabs = k; field = s.field; length = s.length }) buf
        takes_tab t = byte s.field s.length buf
            (λ l e h. subst (λ (m : List ℕ). Shown m s.field) (sym (until_here TAB l b [] t)) h)
            still

        pub takes_figure : (b ≡ TAB → ⊥) → (g : Figures) → Grows b s.field g → Takes (b ∷ []) s buf (record { ended = s.ended; tabs = k; field = g; length = s.length }) buf
        takes_figure d g grows = byte g s.length buf
            (λ l e h. subst (λ (m : List ℕ). Shown m g) (sym (until_snoc TAB l b (omega arith) d)) (grows.more (until TAB l) h))
            still

-- before the first byte
none_stored : (buf : List ℕ) → Stored [] 0 buf
none_stored buf = record { count = omega arith; same = sym (take-nil (length buf)) }

pub starts_none : Starts (record { ended = false; tabs = 0; field = record { digits = 0; tens = 0; ones = 0 }; length = 0 })
unfolding line_of until past count value
starts_none = record {
  none = λ buf. record {
    ended = refl;
    tabs = refl;
    field = record { digits = sym figures_nil; whole = λ k. refl; short = λ k. refl; empty = λ k. refl };
    row = none_stored buf;
  };
}

-- what the line means
module _ (s : State) where
  pub tells_good : s.tabs ≡ 1 → 0 < s.field.digits → s.field.digits ≤ 2 → (a : ℕ) → a ≡ 10 * s.field.tens + s.field.ones
      → Tells s (Ok (record { a = a; length = s.length }))
  tells_good e p q a x = record { means = λ input buf h. good input buf h }
    where
      good : (input buf : List ℕ) → Taken input s buf → Means input (Ok (record { a = a; length = s.length })) buf
      good input buf h =
          let l = line_of input in
          let d = h.field.digits in
          let m = meaning_good l (omega (arith, h.tabs)) (numeral_yes (until TAB l) (omega arith) (omega arith)) in
          record {
            number = rw m;
            a = rw m (omega (arith, h.field.whole (omega arith)));
            row = subst (λ (w : ℕ × ℕ × List ℕ). Stored w.2 s.length buf) (sym m) h.row;
          }

  bad : ((input buf : List ℕ) → Taken input s buf → meaning (line_of input) ≡ (ALPHABET, 0, [])) → Tells s (Err Alphabet)
  bad f = record {
    means = λ input buf h.
        let m = f input buf h in
        record {
          number = rw m;
          a = rw m;
          row = subst (λ (w : ℕ × ℕ × List ℕ). Stored w.2 0 buf) (sym m) (none_stored buf);
        };
  }

  pub tells_tabs : (s.tabs ≡ 1 → ⊥) → Tells s (Err Alphabet)
  tells_tabs d = bad (λ input buf h. meaning_tabs (line_of input) (λ e. d (omega (arith, h.tabs))))

  pub tells_field : (0 < s.field.digits → 2 < s.field.digits) → Tells s (Err Alphabet)
  tells_field z = bad (λ input buf h. meaning_field (line_of input) (λ t. omega (arith, z, h.field.digits, numeral_out (until TAB (line_of input)) t)))

-- what one read gave
pub gave_none : (p : List ℕ) (s r : State) (old new : List ℕ) (t : Bool) → t ≡ eqb (length p) 0 → t ≡ true → Takes (END ∷ []) s old r new → Takes (gave p) s old r new
unfolding gave
gave_none [] s r old new t e y k = k
gave_none (b ∷ p) s r old new t e y k = absurd (omega (arith, eqb-true (length (b ∷ p)) 0 (sym e ∙ y)))

pub gave_some : (p : List ℕ) (s r : State) (old new : List ℕ) (t : Bool) → t ≡ eqb (length p) 0 → t ≡ false → Takes p s old r new → Takes (gave p) s old r new
unfolding gave
gave_some [] s r old new t e n k = absurd (eqb-false 0 0 (sym e ∙ n) refl)
gave_some (b ∷ p) s r old new t e n k = k

-- each way out of the code of one function
pub ruleset ways = (digit_tested, grows_digit, grows_other, grows_many, counts_other, counts_first, counts_more, takes_ended, takes_end, takes_row, takes_tab, takes_figure, starts_none, gave_none, gave_some, tells_good, tells_tabs, tells_field)

-- each read takes the line a byte further at least
gave_long : (p : List ℕ) → 0 < length (gave p)
unfolding gave
gave_long [] = omega arith
gave_long (b ∷ p) = omega arith

-- a line that has not ended had not ended before
still_going : (input more : List ℕ) (s r : State) (old new : List ℕ) → Taken input s old → Taken (input ++ more) r new → r.ended ≡ false → s.ended ≡ false
still_going input more s r old new h g e =
    let z = ltb-false 0 (count END (input ++ more)) (sym g.ended ∙ e) in
    h.ended ∙ le-ltb 0 (count END input) (omega (arith, count_more END input more))

-- for a caller that reads in turns: before the first, one turn further, with as many as are asked for, and where the line has ended
pub read_start : (s : State) (buf : List ℕ) → Starts s → Read 0 s buf
read_start s buf h = record { input = []; taken = h.none buf; long = λ e. omega arith }

pub read_more : (k : ℕ) (s r : State) (old new : List ℕ) → Read k s old → Reads s old r new → Read (k + 1) r new
read_more k s r old new h d =
    let p = gave d.piece in
    let g = d.takes.more h.input h.taken in
    record {
      input = h.input ++ p;
      taken = g;
      long = λ e. omega (arith, length-append h.input p, gave_long d.piece, h.long (still_going h.input p s r old new h.taken g e));
    }

pub read_all : (n k : ℕ) (s : State) (buf : List ℕ) → Read k s buf → n ≤ k → Read n s buf
read_all n k s buf h z = record { input = h.input; taken = h.taken; long = λ e. omega (arith, h.long e) }

pub read_ended : (k n : ℕ) (s : State) (buf : List ℕ) → Read k s buf → s.ended ≡ true → Read n s buf
read_ended k n s buf h y = record { input = h.input; taken = h.taken; long = λ e. absurd (not_both y e) }

pub read_within : (k : ℕ) (s : State) (r : Result Line Reason) (buf : List ℕ) → Read k s buf → Tells s r → (told_of r).2 ≤ length buf
read_within k s r buf h t = omega (arith, (t.means h.input buf h.taken).row.count)
