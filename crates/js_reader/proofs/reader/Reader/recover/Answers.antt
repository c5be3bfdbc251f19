use Rattle.std.proofs.Common.{refl}
use Rattle.std.proofs.lemmas.Result.{err_from_is_err_and}
use Rattle.js_source.specs.Source.{rest}
use Rattle.js_reader.proofs.ReadingSteps.{lexeme_recovered, recovers_some}
use Rattle.js_reader.proofs.TriviaSteps.{extends_same}
use Rattle.js_reader.proofs.WholeSteps.{stays}
use Rattle.js_reader.proofs.reader.Reader.recover.Goals as goal

pub recover-recovered-requires : goal.recover-recovered-requires
recover-recovered-requires c =
    record {
      some =
          recovers_some c.args.self.now.source_type c.args.self.now.line_has_ended
          (rest c.args.self.now.source) c.requires.gap c.requires.nothing;
      no_named = c.requires.nothing.no_named;
      no_number = c.requires.nothing.no_number;
      no_quoted = c.requires.nothing.no_quoted;
    }

pub returns-in_err-push-clause-err : goal.returns-in_err-push-clause-err
returns-in_err-push-clause-err c =
    let p = err_from_is_err_and c.from_residual.result c.from_residual.ensures.1 in
    rw p.1 (record {
      moves = stays c.args.self.now _ c.recover-recovered.ensures.text refl;
      errors = extends_same c.args.errors.now c.push.new.self c.in_err-push.ensures.err;
    })

pub returns-clause-ok : goal.returns-clause-ok
returns-clause-ok c =
    lexeme_recovered c.args.self.now _ c.args.errors.now c.push.new.self c.recover-recovered.result
    c.recover-recovered.ensures c.requires.nothing refl
    c.in_ok-push.ensures.ok
