use Rattle.std.proofs.Common.{refl, sym, subst, ◌≡◌, ◌≢◌, ◌==◌, [], false}
use Rattle.js_grammar.specs.Name.{begins_name}
use Rattle.js_source.specs.Source.{At, rest}
use Rattle.js_grammar.specs.Gap.{whole_gap_piece}
use Rattle.js_grammar.specs.Punctuators.{NoPunctuator}
use Rattle.js_grammar.proofs.Flags.{punctuator_unflagged}
use Rattle.js_grammar.proofs.GapLemmas.{none_behind}
use Rattle.js_text.specs.Ascii.{grave_accent, number_sign}
use Rattle.js_text.specs.Characters.{begins}
use Rattle.js_grammar.specs.StringItems.{is_quote}
use Rattle.js_reader.proofs.ReadingSteps.{lexeme_spelled, answers_from, fails_from}
use Rattle.js_reader.proofs.SpellingSteps.{punctuator_spelled}
use Rattle.js_reader.proofs.reader.Reader.read_symbol.Goals as goal

pub returns-in-Some-clause-ok : goal.returns-in-Some-clause-ok
returns-in-Some-clause-ok c =
    let t = c.args.self.now.source_type in
    let line_has_ended = c.args.self.now.line_has_ended in
    let quiet = (none_behind t line_has_ended (rest c.args.self.now.source) c.requires.gap).0 in
    let read = c.in-Some.ensures t line_has_ended quiet in
    lexeme_spelled c.args.self.now _ c.in-Some.kind c.lexeme.result
    record { source_type = refl; line_has_ended = refl }
    (punctuator_unflagged read.1.it c.in-Some.kind read.1.in_table read.1.kind)
    (punctuator_spelled t line_has_ended c.args.self.now.source c.read_punctuator.new.source c.in-Some.kind read)
    c.lexeme.ensures c.args.errors.now

pub read_other-requires : goal.read_other-requires
read_other-requires c =
    let t = c.args.self.now.source_type in
    let line_has_ended = c.args.self.now.line_has_ended in
    let quiet = (none_behind t line_has_ended (rest c.args.self.now.source) c.requires.gap).0 in
    let none = c.in-None.ensures t line_has_ended quiet in
    record {
      gap = subst (λ (a : At). whole_gap_piece t line_has_ended (rest a) ≡ _) (sym none.0) c.requires.gap;
      some = subst (λ (a : At). rest a ≢ []) (sym none.0) c.requires.some;
      no_name = subst (λ (a : At). begins_name (rest a) ≡ false) (sym none.0) c.requires.no_name;
      no_private_name =
          subst (λ (a : At). begins (λ c. c == number_sign) (rest a) ≡ false) (sym none.0) c.requires.no_private_name;
      no_string = subst (λ (a : At). begins is_quote (rest a) ≡ false) (sym none.0) c.requires.no_string;
      no_template =
          subst (λ (a : At). begins (λ c. c == grave_accent) (rest a) ≡ false) (sym none.0) c.requires.no_template;
      no_punctuator = subst (λ (a : At). NoPunctuator t line_has_ended (rest a)) (sym none.0) none.1;
    }

pub returns-in-None-clause-ok : goal.returns-in-None-clause-ok
returns-in-None-clause-ok c =
    let t = c.args.self.now.source_type in
    let line_has_ended = c.args.self.now.line_has_ended in
    let none =
    c.in-None.ensures t line_has_ended
    (none_behind t line_has_ended (rest c.args.self.now.source) c.requires.gap).0 in
    answers_from c.args.errors.now c.read_other.new.errors c.args.self.now
    (record c.args.self.now { source = c.read_punctuator.new.source }) c.read_other.new.self c.read_other.result
    record { source = none.0; stays = record { source_type = refl; line_has_ended = refl } }
    c.read_other.ensures.ok

pub returns-in-None-clause-err : goal.returns-in-None-clause-err
returns-in-None-clause-err c =
    let t = c.args.self.now.source_type in
    let line_has_ended = c.args.self.now.line_has_ended in
    let none =
    c.in-None.ensures t line_has_ended
    (none_behind t line_has_ended (rest c.args.self.now.source) c.requires.gap).0 in
    fails_from c.args.errors.now c.read_other.new.errors c.args.self.now
    (record c.args.self.now { source = c.read_punctuator.new.source }) c.read_other.new.self c.read_other.result
    record { source = none.0; stays = record { source_type = refl; line_has_ended = refl } }
    c.read_other.ensures.err
