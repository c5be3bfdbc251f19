use Rattle.std.proofs.Common.{◌≡◌, ◌+◌, ◌<◌, ◌∙◌, [], length, ap, arith, refl, subst, sym}
use Rattle.std.proofs.lemmas.Result.{IfOk-weaker}
use Rattle.js_kind.specs.TokenParts.{TokenParts}
use Rattle.js_kind.specs.declared.kind.Kind.TheVariants.{Eof}
use Rattle.js_session.specs.Session.{MayResume}
use Rattle.js_document.specs.Edited.{ReadsIn}
use Rattle.js_document.specs.Gap.{rows_of}
use Rattle.js_document.specs.Reading.{with_rows}
use Rattle.js_document.specs.States.{IsLast}
use Rattle.js_document.proofs.KeptDocument.{are_ordered, being_of, end_fits, goes_on_kept, reads_all, reads_in, same_joining}
use Rattle.js_document.proofs.edited.read_edited.Goals as goal

pub overflow_add-limit : goal.overflow_add-limit
overflow_add-limit g c =
    let being = being_of g.K.KeepGoals.choice g.met.K.KeepGoals.is_rule g.K.KeepGoals.knows c.requires.held.0
    c.args.edit.now.text.now c.args.edit.now.start c.args.edit.now.end c.args.source_type c.args.open.now c.args.entries.now
    c.args.text.now c.requires.held.1 c.utf8.text
    c.pad.ensures.padded c.requires.kept in
    let fits = end_fits g.K.KeepGoals.choice g.met.K.KeepGoals.is_rule g.K.KeepGoals.alike g.met.K.KeepGoals.chooses_alike
    g.met.K.KeepGoals.alike_itself g.met.K.KeepGoals.alike_behind g.met.K.KeepGoals.alike_again g.K.KeepGoals.knows
    g.met.K.KeepGoals.knows_alike c.requires.held.0 c.args.edit.now.text.now c.args.edit.now.start c.args.edit.now.end
    c.args.source_type c.args.open.now c.args.entries.now being in
    let pad = c.pad.ensures.pad in
    omega (arith, fits, pad)

pub new-joining-requires : goal.new-joining-requires
new-joining-requires g c =
    let being = being_of g.K.KeepGoals.choice g.met.K.KeepGoals.is_rule g.K.KeepGoals.knows c.requires.held.0
    c.args.edit.now.text.now c.args.edit.now.start c.args.edit.now.end c.args.source_type c.args.open.now c.args.entries.now
    c.args.text.now c.requires.held.1 c.utf8.text
    c.pad.ensures.padded c.requires.kept in
    are_ordered g.K.KeepGoals.choice g.met.K.KeepGoals.is_rule g.K.KeepGoals.alike g.met.K.KeepGoals.chooses_alike
    g.met.K.KeepGoals.alike_itself g.met.K.KeepGoals.alike_behind g.met.K.KeepGoals.alike_again g.K.KeepGoals.knows
    g.met.K.KeepGoals.knows_alike c.requires.held.0 c.args.edit.now.text.now c.args.edit.now.start c.args.edit.now.end
    c.args.source_type c.args.open.now c.args.entries.now being

pub rows_behind-requires-clause-resumes : goal.rows_behind-requires-clause-resumes
rows_behind-requires-clause-resumes g c =
    let being = being_of g.K.KeepGoals.choice g.met.K.KeepGoals.is_rule g.K.KeepGoals.knows c.requires.held.0
    c.args.edit.now.text.now c.args.edit.now.start c.args.edit.now.end c.args.source_type c.args.open.now c.args.entries.now
    c.args.text.now c.requires.held.1 c.utf8.text
    c.pad.ensures.padded c.requires.kept in
    subst (MayResume c.args.text.now) (sym c.token.ensures)
    (subst (λ x. MayResume x c.in-Some.entry.row.token) (sym c.requires.held.1.text_is)
    (goes_on_kept g.K.KeepGoals.choice g.met.K.KeepGoals.is_rule g.K.KeepGoals.alike g.met.K.KeepGoals.chooses_alike
    g.met.K.KeepGoals.alike_itself g.met.K.KeepGoals.alike_behind g.met.K.KeepGoals.alike_again g.K.KeepGoals.knows
    g.met.K.KeepGoals.knows_alike c.requires.held.0 c.args.edit.now.text.now c.args.edit.now.start c.args.edit.now.end
    c.args.source_type c.args.open.now c.args.entries.now being c.in-Some.entry
    (sym c.last_before.ensures ∙ c.in-Some.is)).resumes)

pub rows_behind-requires-clause-fits : goal.rows_behind-requires-clause-fits
rows_behind-requires-clause-fits g c =
    let pads = c.pad_of-pad.ensures in
    let same = ap (λ j. j.pad) c.new-joining.ensures in
    omega (arith, pads, same)

pub rows_behind-requires-clause-some_text : goal.rows_behind-requires-clause-some_text
rows_behind-requires-clause-some_text g c =
    let being = being_of g.K.KeepGoals.choice g.met.K.KeepGoals.is_rule g.K.KeepGoals.knows c.requires.held.0
    c.args.edit.now.text.now c.args.edit.now.start c.args.edit.now.end c.args.source_type c.args.open.now c.args.entries.now
    c.args.text.now c.requires.held.1 c.utf8.text
    c.pad.ensures.padded c.requires.kept in
    subst (λ (t : TokenParts). (t.kind ≡ Eof → ⊥) → t.start < t.end) (sym c.token.ensures)
    (goes_on_kept g.K.KeepGoals.choice g.met.K.KeepGoals.is_rule g.K.KeepGoals.alike g.met.K.KeepGoals.chooses_alike
    g.met.K.KeepGoals.alike_itself g.met.K.KeepGoals.alike_behind g.met.K.KeepGoals.alike_again g.K.KeepGoals.knows
    g.met.K.KeepGoals.knows_alike c.requires.held.0 c.args.edit.now.text.now c.args.edit.now.start c.args.edit.now.end
    c.args.source_type c.args.open.now c.args.entries.now being c.in-Some.entry
    (sym c.last_before.ensures ∙ c.in-Some.is)).some_text

pub rows_behind-requires-clause-known : goal.rows_behind-requires-clause-known
rows_behind-requires-clause-known g c =
    let being = being_of g.K.KeepGoals.choice g.met.K.KeepGoals.is_rule g.K.KeepGoals.knows c.requires.held.0
    c.args.edit.now.text.now c.args.edit.now.start c.args.edit.now.end c.args.source_type c.args.open.now c.args.entries.now
    c.args.text.now c.requires.held.1 c.utf8.text
    c.pad.ensures.padded c.requires.kept in
    let may = goes_on_kept g.K.KeepGoals.choice g.met.K.KeepGoals.is_rule g.K.KeepGoals.alike g.met.K.KeepGoals.chooses_alike
    g.met.K.KeepGoals.alike_itself g.met.K.KeepGoals.alike_behind g.met.K.KeepGoals.alike_again g.K.KeepGoals.knows
    g.met.K.KeepGoals.knows_alike c.requires.held.0 c.args.edit.now.text.now c.args.edit.now.start c.args.edit.now.end
    c.args.source_type c.args.open.now c.args.entries.now being c.in-Some.entry
    (sym c.last_before.ensures ∙ c.in-Some.is) in
    let tokens = with_rows [] (rows_of c.args.entries.now.front) in (
      tokens,
      subst (λ state. g.K.KeepGoals.knows c.args.open.now state tokens) (sym c.state.ensures) may.known,
      subst (λ token. IsLast token tokens) (sym c.token.ensures) may.is_last,
    )

pub rows_from_start-requires-clause-fits : goal.rows_from_start-requires-clause-fits
rows_from_start-requires-clause-fits g c =
    let pads = c.pad_of-pad.ensures in
    let same = ap (λ j. j.pad) c.new-joining.ensures in
    omega (arith, pads, same)

pub returns-in-Some-clause-rows : goal.returns-in-Some-clause-rows
returns-in-Some-clause-rows g c =
    let being = being_of g.K.KeepGoals.choice g.met.K.KeepGoals.is_rule g.K.KeepGoals.knows c.requires.held.0
    c.args.edit.now.text.now c.args.edit.now.start c.args.edit.now.end c.args.source_type c.args.open.now c.args.entries.now
    c.args.text.now c.requires.held.1 c.utf8.text
    c.pad.ensures.padded c.requires.kept in
    let last = (sym c.last_before.ensures ∙ c.in-Some.is) in
    let may = goes_on_kept g.K.KeepGoals.choice g.met.K.KeepGoals.is_rule g.K.KeepGoals.alike g.met.K.KeepGoals.chooses_alike
    g.met.K.KeepGoals.alike_itself g.met.K.KeepGoals.alike_behind g.met.K.KeepGoals.alike_again g.K.KeepGoals.knows
    g.met.K.KeepGoals.knows_alike c.requires.held.0 c.args.edit.now.text.now c.args.edit.now.start c.args.edit.now.end
    c.args.source_type c.args.open.now c.args.entries.now being c.in-Some.entry last in
    let same = same_joining c.args.entries.now c.args.edit.now.end (length c.args.text.now) c.args.entries.now.back
    c.pad_of-pad.result (c.args.edit.now.end + c.pad.result) c.new-joining.result c.new-joining.ensures refl
    c.pad_of-pad.ensures
    (ap (λ n. c.args.edit.now.end + n) c.pad.ensures.pad) in
    let tokens = with_rows [] (rows_of c.args.entries.now.front) in
    IfOk-weaker c.rows_behind.result _ _
    (λ r reads.
    subst
    (λ j. ReadsIn g.K.KeepGoals.choice g.K.KeepGoals.knows g.K.KeepGoals.alike c.args.open.now c.rows_behind.new.open j
    c.args.text.now c.args.source_type c.args.entries.now.front r.rows.items r.left) same
    (reads_in g.K.KeepGoals.choice g.K.KeepGoals.knows g.K.KeepGoals.alike c.args.open.now c.rows_behind.new.open
    c.new-joining.result c.args.text.now c.args.source_type c.args.entries.now.front r.rows.items r.left
    c.in-Some.entry last
    (reads tokens
    (subst (λ state. g.K.KeepGoals.knows c.args.open.now state tokens) (sym c.state.ensures) may.known)
    (subst (λ token. IsLast token tokens) (sym c.token.ensures) may.is_last))))
    c.rows_behind.ensures.rows

pub returns-in-None-clause-rows : goal.returns-in-None-clause-rows
returns-in-None-clause-rows g c =
    let none = sym c.last_before.ensures ∙ c.in-None.is in
    let same = same_joining c.args.entries.now c.args.edit.now.end (length c.args.text.now) c.args.entries.now.back
    c.pad_of-pad.result (c.args.edit.now.end + c.pad.result) c.new-joining.result c.new-joining.ensures refl
    c.pad_of-pad.ensures
    (ap (λ n. c.args.edit.now.end + n) c.pad.ensures.pad) in
    IfOk-weaker c.rows_from_start.result _ _
    (λ r reads.
    subst
    (λ j. ReadsIn g.K.KeepGoals.choice g.K.KeepGoals.knows g.K.KeepGoals.alike c.args.open.now c.rows_from_start.new.open j
    c.args.text.now c.args.source_type c.args.entries.now.front r.rows.items r.left) same
    (reads_all g.K.KeepGoals.choice g.K.KeepGoals.knows g.K.KeepGoals.alike c.args.open.now c.rows_from_start.new.open
    c.new-joining.result c.args.text.now c.args.source_type c.args.entries.now.front r.rows.items r.left none reads))
    c.rows_from_start.ensures.rows

pub returns-in-Some-clause-padded : goal.returns-in-Some-clause-padded
returns-in-Some-clause-padded g c =
    c.pad.ensures.padded

pub returns-in-None-clause-padded : goal.returns-in-None-clause-padded
returns-in-None-clause-padded g c =
    c.pad.ensures.padded
