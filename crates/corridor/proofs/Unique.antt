-- Each entry's contract determines its result and all lent memory: any two results that meet it on the same arguments are equal, and so is what every
-- lent buffer holds. The statements cite the contracts themselves, `Post` of each function, so a changed contract is judged anew. Assumes nothing.
use mathlib.Core.Path.{◌≡◌, sym, ap, ◌∙◌}
use mathlib.Core.List.{List}
use Prim.Native.Nat.{ℕ}
use borrow.Fn.Kinds.{ParamKind, ResultKind, Out, Dens, res_t, ended_of}
use contract.Lifetimes.{Lfts}
use denote.Triple.Clauses.{AtExit}
use Rattle.words.specs.Least.{LeastRow}
use Rattle.words.specs.Listing.{First, Next}
use Rattle.words.specs.Outcomes.{rebuild_rule, first_rule, next_rule, Rebuilds, Starts, Steps, refuses, breaks, rebuilds, starts, ends, steps}
use Rattle.words.proofs.Order.{least_one}
use Rattle.arrays.proofs.Meets.{rebuild_meets}
use Rattle.listing.proofs.Meets.{first_meets, next_meets}
use Rattle.corridor.proofs.Runs.{Run}
use Rattle.corridor.proofs.echoes.Reads as echoes
use Rattle.corridor.proofs.echoes.Kinds as echoes-kinds
use Rattle.corridor.proofs.looks.Reads as looks
use Rattle.corridor.proofs.looks.Kinds as looks-kinds
use Rattle.corridor.proofs.reach.Reads as reach
use Rattle.corridor.proofs.reach.Kinds as reach-kinds
use Rattle.corridor.proofs.judge.Reads as judge
use Rattle.corridor.proofs.judge.Kinds as judge-kinds
use Rattle.corridor.proofs.rebuild.Reads as rebuild
use Rattle.corridor.proofs.rebuild.Kinds as rebuild-kinds
use Rattle.corridor.proofs.sheet.Reads as sheet
use Rattle.corridor.proofs.sheet.Kinds as sheet-kinds
use Rattle.corridor.proofs.guess.Reads as guess
use Rattle.corridor.proofs.guess.Kinds as guess-kinds
use Rattle.corridor.proofs.count.Reads as count
use Rattle.corridor.proofs.count.Kinds as count-kinds
use Rattle.corridor.proofs.first.Reads as first
use Rattle.corridor.proofs.first.Kinds as first-kinds
use Rattle.corridor.proofs.next.Reads as next
use Rattle.corridor.proofs.next.Kinds as next-kinds
use Rattle.corridor.proofs.closing.Reads as closing
use Rattle.corridor.proofs.closing.Kinds as closing-kinds
use Rattle.corridor.proofs.joining.Reads as joining
use Rattle.corridor.proofs.joining.Kinds as joining-kinds

abbrev number : ℕ × ℕ → ℕ
number r = r.0

abbrev pub told : ℕ × ℕ → List ℕ → ℕ × ℕ × List ℕ
told r x = (r.0, r.1, x)

both_same : {r s : ℕ × ℕ} {x y : List ℕ} → r ≡ s → x ≡ y → told r x ≡ told s y
both_same {r} {s} {x} {y} p q = ap (λ (t : ℕ × ℕ). told t x) p ∙ ap (told s) q

-- what the contract `post` says of two runs on the same arguments: `seen` shows the same of both
abbrev pub Determines : (n : ℕ) (ps : List (ParamKind n)) (r : ResultKind n) → Out n ps r → {T : Type 0} → ((κs : Lfts n) → (res_t r κs).Denot → AtExit (ended_of n ps r) κs → T) → Type 0
Determines n ps r post seen =
    (κs : Lfts n) (a : Dens κs ps) (x y : (res_t r κs).Denot) (s t : AtExit (ended_of n ps r) κs) → post κs a x s → post κs a y t → seen κs x s ≡ seen κs y t

-- every run shows what `rule` says of its arguments
abbrev Follows : (n : ℕ) (ps : List (ParamKind n)) (r : ResultKind n) → Out n ps r → {T : Type 0} → ((κs : Lfts n) → (res_t r κs).Denot → AtExit (ended_of n ps r) κs → T) → ((κs : Lfts n) → Dens κs ps → T) → Type 0
Follows n ps r post seen rule = (p : Run n ps r post) → seen p.lives p.result p.exit ≡ rule p.lives p.args

-- number, place and the buffer at exit
pub echoes_determined : Determines 2 echoes-kinds.ps echoes-kinds.r echoes.Post {T = ℕ × ℕ × List ℕ} (λ κs r s. (r.number, r.place, s.1.1.0.now))
echoes_determined κs a x y s t p q = p ∙ sym q

-- number, place and count
pub looks_determined : Determines 1 looks-kinds.ps looks-kinds.r looks.Post {T = ℕ × ℕ × ℕ} (λ κs r s. (r.number, r.place, r.count))
looks_determined κs a x y s t p q = p ∙ sym q

-- the part that comes back: its bytes and where it begins
pub closing_determined : Determines 1 closing-kinds.ps closing-kinds.r closing.Post {T = List ℕ × (ℕ × ℕ)} (λ κs r s. (r.now, r.ref_ptr))
closing_determined κs a x y s t p q = p ∙ sym q

pub joining_determined : Determines 2 joining-kinds.ps joining-kinds.r joining.Post {T = List ℕ × (ℕ × ℕ)} (λ κs r s. (r.now, r.ref_ptr))
joining_determined κs a x y s t p q = p ∙ sym q

pub reach_determined : Determines 2 reach-kinds.ps reach-kinds.r reach.Post {T = ℕ × ℕ × List ℕ} (λ κs r s. (r.number, r.place, s.1.1.0.now))
reach_determined κs a x y s t p q = p ∙ sym q

-- number, place, length and the buffer at exit
pub sheet_determined : Determines 2 sheet-kinds.ps sheet-kinds.r sheet.Post {T = ℕ × ℕ × ℕ × List ℕ} (λ κs r s. (r.number, r.place, r.length, s.1.1.0.now))
sheet_determined κs a x y s t p q = p ∙ sym q

-- number and place
pub judge_determined : Determines 1 judge-kinds.ps judge-kinds.r judge.Post {T = ℕ × ℕ} (λ κs r s. (r.number, r.place))
judge_determined κs a x y s t p q = p ∙ sym q

pub guess_determined : Determines 2 guess-kinds.ps guess-kinds.r guess.Post {T = ℕ × ℕ} (λ κs r s. (r.number, r.place))
guess_determined κs a x y s t p q = p ∙ sym q

-- rebuilding, a relation in the demand's words: a checked array stands or does not, and there is one least row
pub rebuilds_one : {A : ℕ} {e old new fresh : List ℕ} {r s : ℕ × ℕ} → Rebuilds A e old r new → Rebuilds A e old s fresh → told r new ≡ told s fresh
unfolding LeastRow
rebuilds_one (refuses d e k) (refuses c f l) = both_same (e ∙ sym f) (k ∙ sym l)
rebuilds_one (refuses d e k) (breaks c n f l) = absurd (d (ap number e ∙ c))
rebuilds_one (refuses d e k) (rebuilds c l f) = absurd (d (ap number e ∙ c))
rebuilds_one (breaks c n e k) (refuses d f l) = absurd (d (ap number f ∙ c))
rebuilds_one (breaks c n e k) (breaks d m f l) = both_same (e ∙ sym f) (k ∙ sym l)
rebuilds_one {fresh} (breaks c n e k) (rebuilds d l f) = absurd (n (record { row = fresh; is = l.is }))
rebuilds_one (rebuilds c l e) (refuses d f k) = absurd (d (ap number f ∙ c))
rebuilds_one {new} (rebuilds c l e) (breaks d n f k) = absurd (n (record { row = new; is = l.is }))
rebuilds_one (rebuilds c l e) (rebuilds d m f) = both_same (e ∙ sym f) (least_one l m)

-- number, place and the row at exit
pub rebuild_determined : Determines 2 rebuild-kinds.ps rebuild-kinds.r rebuild.Post {T = ℕ × ℕ × List ℕ} (λ κs r s. (r.number, r.place, s.1.1.0.now))
rebuild_determined κs a x y s t p q = rebuilds_one p q

-- they are those of the rule
pub rebuild_follows : Follows 2 rebuild-kinds.ps rebuild-kinds.r rebuild.Post {T = ℕ × ℕ × List ℕ} (λ κs r s. (r.number, r.place, s.1.1.0.now))
    (λ κs a. rebuild_rule a.0 a.1.0.now a.1.1.0.now)
rebuild_follows p = rebuilds_one p.meets (rebuild_meets p.args.0 p.args.1.0.now p.args.1.1.0.now)

-- counting
pub count_determined : Determines 0 count-kinds.ps count-kinds.r count.Post {T = ℕ × ℕ × ℕ} (λ κs r s. (r.number, r.place, r.count))
count_determined κs a x y s t p q = p ∙ sym q

-- the first array: there is one least
pub starts_one : {A n : ℕ} {old new fresh : List ℕ} {r s : ℕ × ℕ} → Starts A n old r new → Starts A n old s fresh → told r new ≡ told s fresh
unfolding First
starts_one (refuses d e k) (refuses c f l) = both_same (e ∙ sym f) (k ∙ sym l)
starts_one (refuses d e k) (starts c l f) = absurd (d (ap number e ∙ c))
starts_one (starts c l e) (refuses d f k) = absurd (d (ap number f ∙ c))
starts_one (starts c l e) (starts d m f) = both_same (e ∙ sym f) (least_one l m)

pub first_determined : Determines 1 first-kinds.ps first-kinds.r first.Post {T = ℕ × ℕ × List ℕ} (λ κs r s. (r.number, r.place, s.1.1.0.now))
first_determined κs a x y s t p q = starts_one p q

pub first_follows : Follows 1 first-kinds.ps first-kinds.r first.Post {T = ℕ × ℕ × List ℕ} (λ κs r s. (r.number, r.place, s.1.1.0.now))
    (λ κs a. first_rule a.0 a.1.0 a.1.1.0.now)
first_follows p = starts_one p.meets (first_meets p.args.0 p.args.1.0 p.args.1.1.0.now)

-- the next array: an array stands or does not, something is greater or nothing is, and there is one least
pub steps_one : {A : ℕ} {e new fresh : List ℕ} {r s : ℕ × ℕ} → Steps A e r new → Steps A e s fresh → told r new ≡ told s fresh
unfolding Next
steps_one (refuses d e k) (refuses c f l) = both_same (e ∙ sym f) (k ∙ sym l)
steps_one (refuses d e k) (breaks c n f l) = absurd (d (ap number e ∙ c))
steps_one (refuses d e k) (ends c u n f l) = absurd (d (ap number e ∙ c))
steps_one (refuses d e k) (steps c u n f) = absurd (d (ap number e ∙ c))
steps_one (breaks c n e k) (refuses d f l) = absurd (d (ap number f ∙ c))
steps_one (breaks c n e k) (breaks d m f l) = both_same (e ∙ sym f) (k ∙ sym l)
steps_one (breaks c n e k) (ends d u m f l) = absurd (n u)
steps_one (breaks c n e k) (steps d u m f) = absurd (n u)
steps_one (ends c u n e k) (refuses d f l) = absurd (d (ap number f ∙ c))
steps_one (ends c u n e k) (breaks d m f l) = absurd (m u)
steps_one (ends c u n e k) (ends d v m f l) = both_same (e ∙ sym f) (k ∙ sym l)
steps_one {fresh} (ends c u n e k) (steps d v m f) = absurd (n fresh m.is)
steps_one (steps c u n e) (refuses d f l) = absurd (d (ap number f ∙ c))
steps_one (steps c u n e) (breaks d m f l) = absurd (m u)
steps_one {new} (steps c u n e) (ends d v m f l) = absurd (m new n.is)
steps_one (steps c u n e) (steps d v m f) = both_same (e ∙ sym f) (least_one n m)

pub next_determined : Determines 1 next-kinds.ps next-kinds.r next.Post {T = ℕ × ℕ × List ℕ} (λ κs r s. (r.number, r.place, s.1.0.now))
next_determined κs a x y s t p q = steps_one p q

pub next_follows : Follows 1 next-kinds.ps next-kinds.r next.Post {T = ℕ × ℕ × List ℕ} (λ κs r s. (r.number, r.place, s.1.0.now))
    (λ κs a. next_rule a.0 a.1.0.now)
next_follows p = steps_one p.meets (next_meets p.args.0 p.args.1.0.now)
