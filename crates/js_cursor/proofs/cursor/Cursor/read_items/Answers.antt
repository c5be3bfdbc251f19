use Rattle.std.proofs.Common.{◌<◌, ◌^◌, ◌++◌, [], ◌∷◌, refl, sym, ◌∙◌, ap, append_assoc}
use Rattle.std.proofs.Common.{append-nil, arith}
use Rattle.std.proofs.lemmas.Fn.{says_at}
use Rattle.js_kind.specs.declared.kind.Kind.TheVariants.{Comma}
use Rattle.js_cursor.specs.Lists.{Given, GoesOn, IsSeparated, IsSeparatedRound, LeadingOn}
use Rattle.js_cursor.specs.Failing.FailsInRounds.{before_item, in_item, stuck}
use Rattle.js_cursor.specs.RestSteps.{readers_of}
use Rattle.js_cursor.specs.Rests.{ReadsItem, elements}
use Rattle.js_cursor.specs.Rests.EndsWithRest.{ends, rest_is_not_last}
use Rattle.js_cursor.specs.declared.fault.ListFault.TheVariants.{Stuck}
use Rattle.js_cursor.proofs.FailingSteps.{lacking}
use Rattle.js_cursor.proofs.RestItems.{elements-append, ends_behind, separated_behind}
use Rattle.js_cursor.proofs.RoundSteps.{goes_on_behind, goes_on_if-refl, goes_on_if-trans, leaves_less, rounds-push}
use Rattle.js_cursor.proofs.RoundSteps.{stuck_as_told}
use Rattle.js_cursor.proofs.TokenSteps.{then_stays}
use Rattle.js_cursor.proofs.cursor.Cursor.read_items.Goals as goal

pub items-init : goal.items-init
items-init g c = (
  [],
  refl,
  sym (append-nil c.args.items.now.elements.items),
  goes_on_if-refl _ c.args.self.now,
)

pub items-smaller : goal.items-smaller
items-smaller g c =
    let before = c.items.self in
    let after = c.read_item.new.cursor in
    let short : c.items.self.token.start < 2 ^ 32 = omega arith in
    let separated : IsSeparated c.args.close Comma c.items.self c.behind_item.new.self =
    separated_behind c.args.close c.args.opening_span c.is_some-has_rest.result c.items.self c.in_ok-goes_on.goes_on
    c.behind_item.new.self c.if-not-goes_on.false c.in_ok-goes_on.ensures.behind in
    leaves_less c.args.close before after short separated.is_open
    (stuck_as_told before after c.cur_start-start.result c.is_stuck_at.result _ c.cur_start-start.ensures.start
    c.is_stuck_at.ensures c.if-is_stuck_at.false)

pub items-preserved : goal.items-preserved
items-preserved g c =
    let before = c.items.self in
    let after = c.read_item.new.cursor in
    let Q = LeadingOn (IsSeparatedRound (ReadsItem (Given g.E.FallibleElement.reads) (Given
    g.P.FallibleElement.reads)) c.args.close Comma) in
    let separated : IsSeparated c.args.close Comma c.items.self c.behind_item.new.self =
    separated_behind c.args.close c.args.opening_span c.is_some-has_rest.result c.items.self c.in_ok-goes_on.goes_on
    c.behind_item.new.self c.if-not-goes_on.false c.in_ok-goes_on.ensures.behind in
    let more = c.items.invariant.0 in
    let round = c.in-Ok.ensures.item in (
      more ++ round.item ∷ [],
      rounds-push Q (readers_of c.args.items.now) c.args.self.now more (readers_of c.items.items) before round.item
          (readers_of c.read_item.new.items) after c.items.invariant.1 (
            record { between = c.behind_item.new.self; separated = separated; read = round.reads },
            stuck_as_told before after c.cur_start-start.result c.is_stuck_at.result _ c.cur_start-start.ensures.start
                c.is_stuck_at.ensures c.if-is_stuck_at.false,
          ),
      round.kept ∙ ap (λ ys. ys ++ elements (round.item ∷ [])) c.items.invariant.2
          ∙ append_assoc c.args.items.now.elements.items (elements more) (elements (round.item ∷ []))
          ∙ ap (λ ys. c.args.items.now.elements.items ++ ys) (sym (elements-append more (round.item ∷ []))),
      goes_on_if-trans (GoesOn g.E.FallibleElement.reads × GoesOn g.P.FallibleElement.reads) c.args.self.now
          c.behind_item.new.self c.read_item.new.cursor
          (goes_on_behind (GoesOn g.E.FallibleElement.reads × GoesOn g.P.FallibleElement.reads) c.args.self.now
          c.items.self
          c.behind_item.new.self c.items.invariant.3 c.in_ok-goes_on.ensures.onward) c.in-Ok.ensures.goes_on,
    )

pub returns-then-not-goes_on-clause-ok : goal.returns-then-not-goes_on-clause-ok
returns-then-not-goes_on-clause-ok g c =
    let read = c.items.invariant in
    record {
      more = read.0;
      end = c.items.self;
      rounds = read.1;
      kept = read.2;
      ends =
          ends
          (ends_behind c.args.close c.args.opening_span c.is_some-has_rest.result _ c.items.self
          c.in_ok-goes_on.goes_on c.behind_item.new.self c.if-not-goes_on.true c.is_some-has_rest.ensures
          c.in_ok-goes_on.ensures.behind);
    }

pub returns-in-Some-clause-ok : goal.returns-in-Some-clause-ok
returns-in-Some-clause-ok g c =
    let read = c.items.invariant in
    let told = says_at g.S.Fn c.rest_span.ensures refl in
    record {
      more = read.0;
      end = c.items.self;
      rounds = read.1;
      kept = read.2;
      ends =
          rest_is_not_last c.in-Some.rest c.in-Some.is c.behind_item.new.self
          (separated_behind c.args.close c.args.opening_span c.is_some-has_rest.result c.items.self
          c.in_ok-goes_on.goes_on c.behind_item.new.self c.if-not-goes_on.false c.in_ok-goes_on.ensures.behind)
          c.rest_last_diagnostic.result
          (c.rest_span.result, told, c.rest_last_diagnostic.ensures) c.set_fatal_error.ensures.state;
    }

pub returns-in_err-goes_on-clause-goes_on : goal.returns-in_err-goes_on-clause-goes_on
returns-in_err-goes_on-clause-goes_on g c =
    goes_on_behind (GoesOn g.E.FallibleElement.reads × GoesOn g.P.FallibleElement.reads) c.args.self.now c.items.self
    c.behind_item.new.self c.items.invariant.3 c.in_err-goes_on.ensures.onward

pub returns-then-not-goes_on-clause-goes_on : goal.returns-then-not-goes_on-clause-goes_on
returns-then-not-goes_on-clause-goes_on g c =
    goes_on_behind (GoesOn g.E.FallibleElement.reads × GoesOn g.P.FallibleElement.reads) c.args.self.now c.items.self
    c.behind_item.new.self c.items.invariant.3 c.in_ok-goes_on.ensures.onward

pub returns-in-Some-clause-goes_on : goal.returns-in-Some-clause-goes_on
returns-in-Some-clause-goes_on g c =
    goes_on_behind (GoesOn g.E.FallibleElement.reads × GoesOn g.P.FallibleElement.reads) c.args.self.now
    c.items.self c.set_fatal_error.new.self c.items.invariant.3
    (then_stays c.items.self c.behind_item.new.self c.set_fatal_error.new.self c.in_ok-goes_on.ensures.onward
    c.set_fatal_error.ensures.stays)

pub returns-in-Err-clause-goes_on : goal.returns-in-Err-clause-goes_on
returns-in-Err-clause-goes_on g c =
    goes_on_if-trans (GoesOn g.E.FallibleElement.reads × GoesOn g.P.FallibleElement.reads) c.args.self.now
    c.behind_item.new.self c.read_item.new.cursor
    (goes_on_behind (GoesOn g.E.FallibleElement.reads × GoesOn g.P.FallibleElement.reads) c.args.self.now c.items.self
    c.behind_item.new.self c.items.invariant.3 c.in_ok-goes_on.ensures.onward) c.in-Err.ensures.goes_on

pub returns-then-is_stuck_at-clause-goes_on : goal.returns-then-is_stuck_at-clause-goes_on
returns-then-is_stuck_at-clause-goes_on g c =
    goes_on_if-trans (GoesOn g.E.FallibleElement.reads × GoesOn g.P.FallibleElement.reads) c.args.self.now
    c.behind_item.new.self c.read_item.new.cursor
    (goes_on_behind (GoesOn g.E.FallibleElement.reads × GoesOn g.P.FallibleElement.reads) c.args.self.now c.items.self
    c.behind_item.new.self c.items.invariant.3 c.in_ok-goes_on.ensures.onward) c.in-Ok.ensures.goes_on

pub returns-in_err-goes_on-clause-err : goal.returns-in_err-goes_on-clause-err
returns-in_err-goes_on-clause-err g c =
    lacking _ _ c.from_residual.ensures.1
    (before_item refl c.items.invariant.0 c.items.self c.items.invariant.1 c.in_err-goes_on.ensures.err)

pub returns-in-Err-clause-err : goal.returns-in-Err-clause-err
returns-in-Err-clause-err g c =
    in_item c.items.invariant.0 (readers_of c.items.items) c.items.self c.behind_item.new.self c.items.invariant.1
    (separated_behind c.args.close c.args.opening_span c.is_some-has_rest.result c.items.self
    c.in_ok-goes_on.goes_on c.behind_item.new.self c.if-not-goes_on.false c.in_ok-goes_on.ensures.behind)
    c.in-Err.ensures.err

pub returns-then-is_stuck_at-clause-err : goal.returns-then-is_stuck_at-clause-err
returns-then-is_stuck_at-clause-err g c =
    let round = c.in-Ok.ensures.item in
    stuck c.items.invariant.0 (readers_of c.items.items) c.items.self c.items.invariant.1 round.item
    (record {
      between = c.behind_item.new.self;
      separated =
          separated_behind c.args.close c.args.opening_span c.is_some-has_rest.result c.items.self
          c.in_ok-goes_on.goes_on c.behind_item.new.self c.if-not-goes_on.false c.in_ok-goes_on.ensures.behind;
      read = round.reads;
    })
    (stuck_as_told c.items.self c.read_item.new.cursor c.cur_start-start.result c.is_stuck_at.result _
    c.cur_start-start.ensures.start c.is_stuck_at.ensures c.if-is_stuck_at.true)
    (ap Stuck c.cur_start.ensures.start)
