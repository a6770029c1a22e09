-- Each C function's contract determines its result and all lent memory: any two results that meet it on the same arguments are equal, and so is what every
-- lent buffer holds. The statements cite the contracts themselves, `Post` of each function, so a changed contract is judged anew. Assumes nothing.
use mathlib.Core.Path.{◌≡◌, sym, ap, ◌∙◌}
use mathlib.Core.List.{List}
use Prim.Native.Nat.{ℕ}
use Rattle.words.specs.Outcomes.{packed_buffer, Packs}
use Rattle.corridor.proofs.Unique.{Determines, told, rebuilds_one, starts_one, steps_one}
use Rattle.host.proofs.claybobbin_echoes.Reads as echoes
use Rattle.host.proofs.claybobbin_echoes.Kinds as echoes-kinds
use Rattle.host.proofs.claybobbin_reach.Reads as reach
use Rattle.host.proofs.claybobbin_reach.Kinds as reach-kinds
use Rattle.host.proofs.claybobbin_looks.Reads as looks
use Rattle.host.proofs.claybobbin_looks.Kinds as looks-kinds
use Rattle.host.proofs.claybobbin_judge.Reads as judge
use Rattle.host.proofs.claybobbin_judge.Kinds as judge-kinds
use Rattle.host.proofs.claybobbin_rebuild.Reads as rebuild
use Rattle.host.proofs.claybobbin_rebuild.Kinds as rebuild-kinds
use Rattle.host.proofs.claybobbin_count.Reads as count
use Rattle.host.proofs.claybobbin_count.Kinds as count-kinds
use Rattle.host.proofs.claybobbin_first.Reads as first
use Rattle.host.proofs.claybobbin_first.Kinds as first-kinds
use Rattle.host.proofs.claybobbin_next.Reads as next
use Rattle.host.proofs.claybobbin_next.Kinds as next-kinds
use Rattle.host.proofs.claybobbin_sheet.Reads as sheet
use Rattle.host.proofs.claybobbin_sheet.Kinds as sheet-kinds
use Rattle.host.proofs.claybobbin_guess.Reads as guess
use Rattle.host.proofs.claybobbin_guess.Kinds as guess-kinds
use Rattle.host.proofs.claybobbin_closing.Reads as closing
use Rattle.host.proofs.claybobbin_closing.Kinds as closing-kinds
use Rattle.host.proofs.claybobbin_joining.Reads as joining
use Rattle.host.proofs.claybobbin_joining.Kinds as joining-kinds

-- the packed answer and the buffer at exit
pub echoes_determined : Determines 2 echoes-kinds.ps echoes-kinds.r echoes.Post {T = ℕ × List ℕ} (λ κs r s. (r, s.1.1.0.now))
echoes_determined κs a x y s t p q = p ∙ sym q

pub reach_determined : Determines 2 reach-kinds.ps reach-kinds.r reach.Post {T = ℕ × List ℕ} (λ κs r s. (r, s.1.1.0.now))
reach_determined κs a x y s t p q = p ∙ sym q

pub sheet_determined : Determines 2 sheet-kinds.ps sheet-kinds.r sheet.Post {T = ℕ × List ℕ} (λ κs r s. (r, s.1.1.0.now))
sheet_determined κs a x y s t p q = p ∙ sym q

-- the packed answer, where nothing is lent that could change
pub looks_determined : Determines 1 looks-kinds.ps looks-kinds.r looks.Post {T = ℕ} (λ κs r s. r)
looks_determined κs a x y s t p q = p ∙ sym q

pub judge_determined : Determines 1 judge-kinds.ps judge-kinds.r judge.Post {T = ℕ} (λ κs r s. r)
judge_determined κs a x y s t p q = p ∙ sym q

pub count_determined : Determines 0 count-kinds.ps count-kinds.r count.Post {T = ℕ} (λ κs r s. r)
count_determined κs a x y s t p q = p ∙ sym q

pub guess_determined : Determines 2 guess-kinds.ps guess-kinds.r guess.Post {T = ℕ} (λ κs r s. r)
guess_determined κs a x y s t p q = p ∙ sym q

pub closing_determined : Determines 1 closing-kinds.ps closing-kinds.r closing.Post {T = ℕ} (λ κs r s. r)
closing_determined κs a x y s t p q = p ∙ sym q

pub joining_determined : Determines 2 joining-kinds.ps joining-kinds.r joining.Post {T = ℕ} (λ κs r s. r)
joining_determined κs a x y s t p q = p ∙ sym q

-- the relations: an answer and a buffer of which P holds, and P holds of one alone
abbrev shown : ℕ → List ℕ → ℕ × List ℕ
shown r x = (r, x)

packs_one : {P Q : ℕ × ℕ → Type 0} {r s : ℕ} {new fresh : List ℕ} → (p : Packs P r) → (q : Packs Q s) → told p.answer new ≡ told q.answer fresh → shown r new ≡ shown s fresh
unfolding packed_buffer
packs_one {new} {fresh} p q e = ap (λ (k : ℕ). shown k new) p.packed ∙ ap packed_buffer e ∙ sym (ap (λ (k : ℕ). shown k fresh) q.packed)

pub rebuild_determined : Determines 2 rebuild-kinds.ps rebuild-kinds.r rebuild.Post {T = ℕ × List ℕ} (λ κs r s. (r, s.1.1.0.now))
rebuild_determined κs a x y s t p q = packs_one p q (rebuilds_one p.is q.is)

pub first_determined : Determines 1 first-kinds.ps first-kinds.r first.Post {T = ℕ × List ℕ} (λ κs r s. (r, s.1.1.0.now))
first_determined κs a x y s t p q = packs_one p q (starts_one p.is q.is)

pub next_determined : Determines 1 next-kinds.ps next-kinds.r next.Post {T = ℕ × List ℕ} (λ κs r s. (r, s.1.0.now))
next_determined κs a x y s t p q = packs_one p q (steps_one p.is q.is)
