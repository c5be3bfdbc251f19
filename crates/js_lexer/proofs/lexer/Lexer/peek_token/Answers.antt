use Rattle.std.proofs.Common.{refl, ap, arith}
use Rattle.js_lexer.specs.Places.{places}
use Rattle.js_grammar.specs.declared.goal.Goal.TheVariants.{Next}
use Rattle.js_lexer.proofs.GoesOn.{can_rewind-on}
use Rattle.js_lexer.proofs.LexerSteps.{reading_goes_on}
use Rattle.js_lexer.proofs.Sparse.{places_rewound, sparse_back}
use Rattle.js_lexer.proofs.lexer.Lexer.peek_token.Goals as goal

pub rewind-requires : goal.rewind-requires
rewind-requires g c =
    can_rewind-on c.args.self.now c.next_token.new.self c.checkpoint-checkpoint.result
    c.checkpoint-checkpoint.ensures.open
    (reading_goes_on Next c.args.self.now c.next_token.new.self c.in_ok-token.token c.in_ok-token.ensures.ok)

pub returns-clause-ok : goal.returns-clause-ok
returns-clause-ok g c =
    let read = c.in_ok-token.ensures.ok in
    record {
      restored =
          c.rewind.ensures.restores c.args.self.now c.checkpoint-checkpoint.ensures.state
          (reading_goes_on Next c.args.self.now c.next_token.new.self c.in_ok-token.token read);
      kept = rw c.rewind.ensures.state read.kept;
      outcome = read.outcome;
      token_is = read.token_is;
      reads = read.reads;
      agrees = read.agrees refl;
      has_value = rw c.rewind.ensures.state read.has_value;
    }

pub returns-clause-places : goal.returns-clause-places
returns-clause-places g c =
    let between = c.next_token.new.self in
    let back = places_rewound between c.checkpoint-checkpoint.result in
    let same = ap places c.rewind.ensures.state in
    record {
      count = omega (arith, c.in_ok-token.ensures.places.count, back, same);
      sparse = sparse_back c.args.self.now _ (returns-clause-ok g c).restored;
    }
