use Rattle.std.proofs.Common.{ap, refl, rules, subst}
use Rattle.js_grammar.specs.declared.goal.Goal.TheVariants.{RegularExpression}
use Rattle.js_lexer.specs.Goals.{ReadsRegex}
use Rattle.js_cursor.specs.Cursor.{CursorState}
use Rattle.js_cursor.proofs.TokenSteps.{before_in_its_place, in_its_place, on_again, on_view}
use Rattle.js_cursor.proofs.cursor.Cursor.read_regex.Goals as goal

pub returns-clause-ok : goal.returns-clause-ok
returns-clause-ok g c = record {
  read =
      subst (λ (s : CursorState). ReadsRegex s.lexer c.in_ok-found.found c.next_regex.new.self) c.self.view_is
      c.in_ok-found.ensures.ok;
  others =
      ap (λ (s : CursorState). record s { lexer = c.next_regex.new.self; token = c.in_ok-found.found.token })
      c.self.view_is;
}

pub invariant_of-self-2 : goal.invariant_of-self-2
invariant_of-self-2 g c =
    on_again RegularExpression _ c.self.inside.lexer _ c.self.inside.token _ c.self.inside.previous_end refl
    c.self.invariant c.in_ok-found.ensures.ok.again

pub returns-clause-stays : goal.returns-clause-stays
returns-clause-stays g c =
    let read = returns-clause-ok g c in
    in_its_place RegularExpression _ c.args.self.now _ refl
    (on_view _ _ _ c.self.view_is c.self.invariant) (search rules)
    (record { read = read.read.again; others = read.others })

pub returns-in_err-found-clause-stays : goal.returns-in_err-found-clause-stays
returns-in_err-found-clause-stays g c =
    before_in_its_place c.args.self.now _ (search rules) (search rules)
