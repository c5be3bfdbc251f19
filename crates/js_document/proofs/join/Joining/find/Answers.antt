use Rattle.js_document.specs.Gap.{AreInOrder, rows_of}
use Rattle.std.proofs.Common.{◌≡◌, ◌∙◌, Some, ap, arith, length, sym, subst}
use Rattle.std.specs.Prelude.{slice_get, reverse}
use Rattle.js_document.proofs.JoinLemmas.{joins_here, none_further, none_left, none_next}
use Rattle.js_document.proofs.join.Joining.find.Goals as goal

pub behind-entry-requires : goal.behind-entry-requires
behind-entry-requires g c =
    let less = c.loop-left-test.true in
    let all = c.back_len-end.ensures in
    omega (arith, less, all)

pub returns-then-start-clause-none : goal.returns-then-start-clause-none
returns-then-start-clause-none g c = λ tokens known last none.
    let left = c.loop-left.left in
    let entry = c.behind-entry.result in
    let there : slice_get c.args.self.now.back left ≡ Some entry =
    ap (λ x. slice_get x.back left) (sym c.self.view_is) ∙ c.behind-entry.ensures in
    let elsewhere = c.if-start.true in
    let here = c.start.ensures ∙ ap (λ t. t.start) c.token.ensures in
    let wanted = c.start-in-loop-left.ensures in
    none_further g.K.KeepGoals.knows g.K.KeepGoals.alike c.args.open.now c.args.self.now c.args.token.now c.args.padded.now
    c.args.state c.requires.padded c.args.at left entry
    (subst (λ x. AreInOrder (reverse (rows_of x.back))) c.self.view_is c.self.invariant.back) c.requires.seam
    c.loop-left.invariant.from there (λ same. omega (arith, elsewhere, here, wanted, same)) c.loop-left.invariant.none
    tokens known last

pub returns-then-is_joined-clause-some : goal.returns-then-is_joined-clause-some
returns-then-is_joined-clause-some g c = λ tokens known last.
    let left = c.loop-left.left in
    let entry = c.behind-entry.result in
    let there : slice_get c.args.self.now.back left ≡ Some entry =
    ap (λ x. slice_get x.back left) (sym c.self.view_is) ∙ c.behind-entry.ensures in
    let same = c.is_joined.ensures.same (let yes = c.if-is_joined.true in cc) in
    joins_here g.K.KeepGoals.knows g.K.KeepGoals.alike c.args.open.now c.args.self.now c.args.token.now c.args.padded.now
    c.args.state c.requires.padded left entry there c.requires.behind same tokens
    (λ others other known_others is_last kind.
    (c.is_joined.ensures.alike tokens others other known known_others last is_last kind same).0
    (let yes = c.if-is_joined.true in cc))

pub loop-left-preserved : goal.loop-left-preserved
loop-left-preserved g c =
    let left = c.loop-left.left in
    let entry = c.behind-entry.result in
    let there : slice_get c.args.self.now.back left ≡ Some entry =
    ap (λ x. slice_get x.back left) (sym c.self.view_is) ∙ c.behind-entry.ensures in
    let from = c.loop-left.invariant.from in
    record {
      from = omega (arith, from);
      none =
          none_next g.K.KeepGoals.knows g.K.KeepGoals.alike c.args.open.now c.args.self.now c.args.token.now c.args.padded.now
          c.args.state c.requires.padded left entry there
          (λ tokens others other known known_others last is_last kind same alike.
          let yes =
          (c.is_joined.ensures.alike tokens others other known known_others last is_last kind same).1 alike in
          let no = c.if-is_joined.false in
          absurd (cc))
          c.loop-left.invariant.none;
    }

pub returns-clause-none : goal.returns-clause-none
returns-clause-none g c = λ tokens known last none.
    let past = c.loop-left-test.false in
    let all = c.back_len-end.ensures in
    let backs = ap (λ x. length x.back) c.self.view_is in
    none_left g.K.KeepGoals.knows g.K.KeepGoals.alike c.args.open.now c.args.self.now c.args.token.now c.args.padded.now
    c.args.state c.requires.padded c.loop-left.left
    (omega (arith, past, all, backs)) c.loop-left.invariant.none tokens known last
