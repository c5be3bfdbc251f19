use Rattle.js_relex.proofs.JoinLemmas.{joins_as_moved, joins_none}
use Rattle.js_relex.proofs.join.Joining.is_joined_by.Goals as goal

pub returns-then-left-self : goal.returns-then-left-self
returns-then-left-self c = (
  λ no. absurd (let e = no in cc),
  λ h. absurd
      (joins_none _ c.args.self.now c.self.inside.common c.args.left c.args.row.now c.self.view_is c.self.invariant.0
      c.self.invariant.1 c.requires c.if-left-self.true h),
)

pub returns : goal.returns
returns c =
    let both =
    joins_as_moved _ c.args.self.now c.self.inside.common c.args.left c.args.row.now c.index-self-self.result
    c.self.view_is c.self.invariant.0 c.self.invariant.1 c.requires c.if-left-self.false in (
      λ yes. both.here (c.is_moved.ensures.0 yes),
      λ h. c.is_moved.ensures.1 (both.back h),
    )
