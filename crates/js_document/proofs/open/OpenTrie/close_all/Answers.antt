use Rattle.std.proofs.Common.{◌≡◌, ◌-◌, ◌∙◌, ap, arith, drop, subst, sym}
use Rattle.js_document.specs.Trie.{IsOpen, opened}
use Rattle.js_document.proofs.OpenedLemmas.{one_closed}
use Rattle.js_document.proofs.open.OpenTrie.close_all.Goals as goal

pub loop-left-init : goal.loop-left-init
loop-left-init c =
    let none : c.args.count - c.args.count ≡ 0 = omega arith in
    record {
      few = omega arith;
      is = λ scopes is. subst (λ n. IsOpen c.args.self.now c.args.link (drop n scopes)) (sym none) is;
      told = ap (λ n. drop n (opened c.args.self.now c.args.link)) (sym none);
    }

pub loop-left-preserved : goal.loop-left-preserved
loop-left-preserved c =
    let left = c.loop-left.left in
    let count = c.args.count in
    let few = c.loop-left.invariant.few in
    let some = c.loop-left-test.true in
    record {
      few = omega (arith, few);
      is = λ scopes is.
          subst (IsOpen c.args.self.now c.close-below.result) (one_closed count left scopes (omega (arith, some)) few)
          (c.close-below.ensures.is (drop (count - left) scopes) (c.loop-left.invariant.is scopes is));
      told =
          c.close-below.ensures.told ∙ ap (drop 1) c.loop-left.invariant.told
          ∙ one_closed count left (opened c.args.self.now c.args.link) (omega (arith, some)) few;
    }

pub returns-clause-is : goal.returns-clause-is
returns-clause-is c scopes is =
    let none = c.loop-left-test.false in
    subst (λ n. IsOpen c.args.self.now c.loop-left.below (drop n scopes))
    (let all : c.args.count - c.loop-left.left ≡ c.args.count = omega (arith, none) in all)
    (c.loop-left.invariant.is scopes is)

pub returns-clause-told : goal.returns-clause-told
returns-clause-told c =
    let none = c.loop-left-test.false in
    c.loop-left.invariant.told
    ∙ ap (λ n. drop n (opened c.args.self.now c.args.link))
    (let all : c.args.count - c.loop-left.left ≡ c.args.count = omega (arith, none) in all)
