-- `kept::loads::load_accepted` meets its contract.
-- Assumes nothing.
use borrow.Author.Rules.{rules}
use native.Mathlib.Omega.{arith}
use Prim.Native.Nat.{ℕ, ◌*◌}
use mathlib.Core.Path.{sym, ap, ◌∙◌}
use Rattle.rules.specs.Images.{image_size_of}
use Rattle.table.specs.Ready.{table_of}
use Rattle.std.proofs.lemmas.Result.{err_from_is_err_and}
use Rattle.kept.specs.Laws.Cases.{load_60, load_62, load_block, load_sound, judged_refused, judged_fine}
use Rattle.kept.proofs.loads.load_accepted.Goals as goal

pub returns-then-carriers-size : goal.returns-then-carriers-size
returns-then-carriers-size c = λ v w. load_60 (table_of v) _ _ (λ e. c.if-carriers-size.true (e ∙ ap (λ (k : ℕ). 8 * k) (sym w)))

pub returns-then-image-needed : goal.returns-then-image-needed
returns-then-image-needed c = λ v w.
    let q = ap (λ (k : ℕ). 8 * k) w in
    load_62 (table_of v) _ _ (c.if-carriers-size.false ∙ q) (λ e. c.if-image-needed.true (e ∙ ap image_size_of (sym q) ∙ sym c.image_size-needed.ensures))

pub load_sound-requires : goal.load_sound-requires
load_sound-requires c =
    record { scene = c.requires.words_value.0; in_bounds = (c.requires.in_bounds.0, (omega (arith, c.if-carriers-size.false, c.requires.in_bounds.1), c.if-image-needed.false ∙ c.image_size-needed.ensures ∙ ap image_size_of (sym c.if-carriers-size.false))) }

pub returns-in_err-judge : goal.returns-in_err-judge
returns-in_err-judge c = λ v w.
    let q = ap (λ (k : ℕ). 8 * k) w in
    let p = err_from_is_err_and c.from_residual.result c.from_residual.ensures.1 in
    rw (p.1, p.2)
    (load_block (table_of v) _ _ (omega (arith, w, c.requires.in_bounds.1)) (c.if-carriers-size.false ∙ q) (c.if-image-needed.false ∙ c.image_size-needed.ensures ∙ ap image_size_of q)
    (judged_refused c.args.image.now c.judge.ensures c.in_err-judge.was q))

pub returns : goal.returns
returns c = λ v w.
    let q = ap (λ (k : ℕ). 8 * k) w in
    let l = c.if-carriers-size.false ∙ q in
    load_sound (table_of v) _ _ l (c.if-image-needed.false ∙ c.image_size-needed.ensures ∙ ap image_size_of q)
    (judged_fine {j = c.judge.result} c.args.image.now c.judge.ensures c.in_ok-judge.was q) (c.load_sound.ensures v l)
