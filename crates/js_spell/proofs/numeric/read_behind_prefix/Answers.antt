use Rattle.std.proofs.Common.{subst, ℕ}
use Rattle.js_spell.specs.Numeric.{ReadsRun, base_of_prefix}
use Rattle.js_spell.proofs.PrefixSteps.{prefix_broken_read, prefix_big_read, prefix_plain_read}
use Rattle.js_spell.proofs.numeric.read_behind_prefix.Goals as goal

pub returns-then-not-is_whole-clause-ok : goal.returns-then-not-is_whole-clause-ok
returns-then-not-is_whole-clause-ok c =
    let base = base_of_prefix c.args.prefix in
    let mid = c.read_run.new.source in
    let digits : ReadsRun base.radix c.args.source.now mid c.args.errors.now c.read_run.new.errors
    c.args.has_separator.now
    c.read_run.new.has_separator c.in_ok-is_whole.is_whole =
    subst (λ (r : ℕ). ReadsRun r c.args.source.now mid c.args.errors.now c.read_run.new.errors c.args.has_separator.now
    c.read_run.new.has_separator c.in_ok-is_whole.is_whole) c.digits.ensures c.in_ok-is_whole.ensures.ok in
    prefix_broken_read base c.args.source.now mid c.advance_to_end.new.self c.args.errors.now c.read_run.new.errors
    c.args.has_separator.now c.read_run.new.has_separator c.advance_to_end.ensures.place.text
    c.advance_to_end.ensures.nothing (rw c.if-not-is_whole.true at digits)

pub returns-then-advance_if_ascii_eq-clause-ok : goal.returns-then-advance_if_ascii_eq-clause-ok
returns-then-advance_if_ascii_eq-clause-ok c =
    let base = base_of_prefix c.args.prefix in
    let mid = c.read_run.new.source in
    let digits : ReadsRun base.radix c.args.source.now mid c.args.errors.now c.read_run.new.errors
    c.args.has_separator.now
    c.read_run.new.has_separator c.in_ok-is_whole.is_whole =
    subst (λ (r : ℕ). ReadsRun r c.args.source.now mid c.args.errors.now c.read_run.new.errors c.args.has_separator.now
    c.read_run.new.has_separator c.in_ok-is_whole.is_whole) c.digits.ensures c.in_ok-is_whole.ensures.ok in
    rw c.big_kind.ensures
    (prefix_big_read base c.args.source.now mid c.advance_if_ascii_eq.new.self c.args.errors.now
    c.read_run.new.errors c.args.has_separator.now c.read_run.new.has_separator
    (rw c.if-not-is_whole.false at digits) c.if-advance_if_ascii_eq.ensures.cases)

pub returns-clause-ok : goal.returns-clause-ok
returns-clause-ok c =
    let base = base_of_prefix c.args.prefix in
    let mid = c.read_run.new.source in
    let none = c.if-advance_if_ascii_eq.ensures.cases in
    let digits : ReadsRun base.radix c.args.source.now mid c.args.errors.now c.read_run.new.errors
    c.args.has_separator.now
    c.read_run.new.has_separator c.in_ok-is_whole.is_whole =
    subst (λ (r : ℕ). ReadsRun r c.args.source.now mid c.args.errors.now c.read_run.new.errors c.args.has_separator.now
    c.read_run.new.has_separator c.in_ok-is_whole.is_whole) c.digits.ensures c.in_ok-is_whole.ensures.ok in
    rw (c.kind.ensures, none.1) (prefix_plain_read base c.args.source.now mid c.args.errors.now c.read_run.new.errors
    c.args.has_separator.now c.read_run.new.has_separator (rw c.if-not-is_whole.false at digits) none.0)
