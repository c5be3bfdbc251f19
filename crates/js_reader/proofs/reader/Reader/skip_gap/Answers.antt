use Rattle.std.proofs.Common.{Bool, false, refl, subst, ◌∙◌}
use Rattle.js_reader.specs.Reader.{SkipsPiece}
use Rattle.js_reader.proofs.GapSteps.{blanks_lead, leads_to, no_gap_left}
use Rattle.js_reader.proofs.TriviaSteps.{grows_none, grows_on}
use Rattle.js_reader.proofs.reader.Reader.skip_gap.Goals as goal

pub loop-self-init : goal.loop-self-init
loop-self-init c =
    let blanks = c.skip_blanks.ensures in
    record {
      text = blanks.text;
      source_type = refl;
      leads =
          leads_to c.args.self.now (record c.args.self.now { source = c.skip_blanks.new.source }) _
          c.args.found.now c.args.found.now
          (blanks_lead c.args.self.now.tables.blanks c.args.self.now.tables.gap_blanks c.args.self.now
          c.skip_blanks.new.source c.args.found.now blanks.text blanks.run)
          (record { source = refl; stays = record { source_type = refl; line_has_ended = refl } });
      grown = grows_none c.args.found.now;
    }

pub returns-in_err-skip_piece-clause-grown : goal.returns-in_err-skip_piece-clause-grown
returns-in_err-skip_piece-clause-grown c =
    grows_on c.args.found.now c.loop-self.found c.skip_piece.new.found c.loop-self.invariant.grown
    c.skip_piece.ensures.grown

pub loop-self-preserved : goal.loop-self-preserved
loop-self-preserved c =
    let inv = c.loop-self.invariant in
    let some =
    subst (λ (b : Bool). SkipsPiece c.loop-self.self c.loop-self.found b c.skip_piece.new.self c.skip_piece.new.found)
    c.if-branch.true c.in_ok-skip_piece.ensures.ok in
    let blanks = c.skip_blanks-in-loop-self.ensures in
    let passes =
    leads_to c.skip_piece.new.self
    (record c.skip_piece.new.self { source = c.skip_blanks-in-loop-self.new.source }) _
    c.skip_piece.new.found c.skip_piece.new.found
    (blanks_lead c.skip_piece.new.self.tables.blanks c.skip_piece.new.self.tables.gap_blanks c.skip_piece.new.self
    c.skip_blanks-in-loop-self.new.source c.skip_piece.new.found blanks.text blanks.run)
    (record { source = refl; stays = record { source_type = refl; line_has_ended = refl } }) in
    record {
      text = blanks.text ∙ some.text ∙ inv.text;
      source_type = some.source_type ∙ inv.source_type;
      leads = λ later found s. inv.leads later found (some.leads later found (passes later found s));
      grown = grows_on c.args.found.now c.loop-self.found c.skip_piece.new.found inv.grown c.skip_piece.ensures.grown;
    }

pub returns-clause-ok : goal.returns-clause-ok
returns-clause-ok c =
    let none =
    subst (λ (b : Bool). SkipsPiece c.loop-self.self c.loop-self.found b c.skip_piece.new.self c.skip_piece.new.found)
    c.if-branch.false c.in_ok-skip_piece.ensures.ok in
    c.loop-self.invariant.leads c.skip_piece.new.self c.skip_piece.new.found
    (no_gap_left false c.loop-self.self c.skip_piece.new.self c.loop-self.found c.skip_piece.new.found none.0 none.1
    none.2)
