-- By how much the counter rises where a text is edited.
use Rattle.std.proofs.Common.{◌≡◌, ℕ, ◌+◌, ◌-◌, ◌<◌, ◌≤◌, Bool, true}
use Rattle.std.proofs.Common.{false, List, [], ◌∷◌, ◌++◌, length, map}
use Rattle.std.proofs.Common.{take, drop, refl, sym, ◌∙◌, ap, subst, arith, append_assoc, Option, Some, None}
use Rattle.std.proofs.Math.Seq.{drop-append_seam, drop-length}
use Rattle.std.proofs.lemmas.List.{length-append, length-take-le}
use Rattle.js_session.specs.declared.command.Command.{Command}
use Rattle.js_session.specs.declared.report.Report.{Report}
use Rattle.js_session.specs.declared.row.Row.{Row}
use Rattle.js_session.specs.Report.{AreRows, ReportOf}
use Rattle.js_session.specs.Shifted.{shifted_row}
use Rattle.js_session.proofs.Unique.{rows_unique}
use Rattle.js_relex.specs.Documents.{DocState, IsDocument, IsGathered, Relexes, Spares, TakesOver, TicksAtMost}
use Rattle.js_relex.specs.Documents.{edited, joining, rows_taken_over}
use Rattle.js_relex.specs.Joined.{FirstFrom, JoiningState, Joins}
use Rattle.js_relex.specs.Joining.{BreaksEdited, PreparedState, Prepares, all_rows, joined_at, old_rows_behind}
use Rattle.js_relex.specs.Joining.{taken_over}
use Rattle.js_relex.specs.Kept.{IsKept}
use Rattle.js_relex.proofs.FirstLemmas.{first_of_more, found_behind, found_there, one_first}
use Rattle.js_relex.proofs.JoinedRows.{rows_of_edit}
use Rattle.js_relex.proofs.NewRows.{gathered_report}
use Rattle.js_relex.proofs.TakenOver.{takes_over}

-- behind the kept rows
pub behind_kept : (j : JoiningState) (kept : ℕ) (rows : List Row) → kept ≤ length j.rows
    → drop kept (take kept j.rows ++ rows) ≡ rows
behind_kept j kept rows few =
    ap (λ n. drop n (take kept j.rows ++ rows)) (sym (length-take-le kept j.rows few))
    ∙ drop-append_seam (take kept j.rows) rows

module _ (old : DocState) (start end : ℕ) (new : List ℕ) (p : PreparedState)
    (doc : IsDocument old.text old.source_type old.commands old.report) (h : Prepares old start end new p) where
  abbrev j : JoiningState
  j = joining old start end new p.commands

  abbrev taken : List Row
  taken = map (shifted_row j.from j.to) (old_rows_behind j (taken_over j p.kept p.rows))

  abbrev joined : Option ℕ
  joined = joined_at p.joined (p.kept + length p.rows - 1)

  none_taken : (b : Bool) → p.joined ≡ b → joined_at b (p.kept + length p.rows - 1) ≡ None → taken ≡ []
  none_taken true present nothing = absurd (cc)
  none_taken false absent nothing = none_taken_over j p.kept p.rows (h.reads.all absent)
    where
      none_taken_over : (j : JoiningState) (kept : ℕ) (rows : List Row) → kept + length rows ≡ length j.commands + 1
          → map (shifted_row j.from j.to) (old_rows_behind j (taken_over j kept rows)) ≡ []
      none_taken_over j kept rows all =
          let none : taken_over j kept rows ≡ 0 = omega (arith, all) in
          let whole : length j.rows - 0 ≡ length j.rows = omega arith in
          ap (map (shifted_row j.from j.to))
          (ap (old_rows_behind j) none ∙ ap (λ n. drop n j.rows) whole ∙ drop-length j.rows)

  -- Which rows the edit spares.
  pub spares : Spares old start end new p.commands (all_rows j p.kept p.rows) p.kept joined
  spares = record {
    kept_is = h.kept_is;
    joined_is =
        subst (λ rs. FirstFrom (Joins j) p.kept rs joined)
        (sym
        (ap (drop p.kept) (append_assoc (take p.kept j.rows) p.rows taken)
        ∙ behind_kept j p.kept (p.rows ++ taken) h.few_kept))
        (first_of_more (Joins j) p.kept p.rows taken joined h.reads.first (none_taken p.joined refl));
  }

  count_taken : (b : Bool) → p.joined ≡ b
      → rows_taken_over (joined_at b (p.kept + length p.rows - 1)) (all_rows j p.kept p.rows) ≡ length taken
  count_taken true present =
      let some = h.reads.some in
      let count = length-append (take p.kept j.rows ++ p.rows) taken in
      let kept = length-take-le p.kept j.rows h.few_kept in
      let rest = length-append (take p.kept j.rows) p.rows in
      omega (arith, some, count, kept, rest)
  count_taken false absent =
      let none = ap length (none_taken false absent refl) in omega (arith, none)

  -- The counter rose by the rows that were read.
  pub exact : (before now : ℕ) → now ≡ before + length p.rows
      → now + p.kept + rows_taken_over joined (all_rows j p.kept p.rows) ≡ before + length (all_rows j p.kept p.rows)
  exact before now ticks =
      let count = length-append (take p.kept j.rows ++ p.rows) taken in
      let kept = length-take-le p.kept j.rows h.few_kept in
      let rest = length-append (take p.kept j.rows) p.rows in
      let behind = count_taken p.joined refl in
      omega (arith, ticks, count, kept, rest, behind)

  pub read_at_most : (before now : ℕ) → now ≡ before + length p.rows
      → TicksAtMost old start end new p.commands before now
  read_at_most before now ticks = record {
    kept = p.kept;
    is_kept = h.kept_is;
    at_most = let few = h.reads.few in omega (arith, ticks, few);
    joined_at_most =
        λ rows other are spared.
        let same : rows ≡ all_rows j p.kept p.rows =
        rows_unique p.text old.source_type p.commands rows (all_rows j p.kept p.rows) h.utf8
        (subst (λ x. AreRows x old.source_type p.commands rows) (sym h.text_is) are)
        (rows_of_edit old start end new p doc h) in
        let one : other ≡ joined =
        one_first (Joins j) p.kept (drop p.kept (all_rows j p.kept p.rows)) other joined
        (subst (λ rs. FirstFrom (Joins j) p.kept (drop p.kept rs) other) same spared.joined_is) spares.joined_is in
        let count = ap length same in
        let behind = ap (λ o. rows_taken_over o rows) one ∙ ap (rows_taken_over joined) same in
        let equal = exact before now ticks in
        omega (arith, count, behind, equal);
  }

  -- What is put together is a document.
  pub is_document : (report : Report) → IsGathered (all_rows j p.kept p.rows) report
      → IsDocument p.text old.source_type p.commands report
  is_document report gathered = record {
    lasting = h.lasting;
    report_is =
        gathered_report p.text old.source_type p.commands (all_rows j p.kept p.rows) report h.utf8 h.short h.lasting
        (rows_of_edit old start end new p doc h) gathered;
  }

  -- It is the one of the edited text.
  pub made : (d : DocState) → d.text ≡ p.text → d.source_type ≡ old.source_type → d.commands ≡ p.commands
      → IsGathered (all_rows j p.kept p.rows) d.report → d.kept ≡ p.kept → d.joined ≡ joined
      → Relexes old start end new p.commands 0 (length p.rows) d
  made d text type commands gathered kept joins =
      let rows = gathered.rows_are in
      record {
        document = record {
          text_is = text ∙ h.text_is;
          type_is = type;
          commands_are = commands;
          report_is =
              subst (λ x. ReportOf x old.source_type false p.commands d.report) h.text_is
              (is_document d.report gathered).report_is;
        };
        spares =
            subst (λ n. Spares old start end new p.commands d.report.rows n d.joined) (sym kept)
            (subst (λ o. Spares old start end new p.commands d.report.rows p.kept o) (sym joins)
            (subst (λ rs. Spares old start end new p.commands rs p.kept joined) (sym rows) spares));
        takes_over =
            subst (λ n. TakesOver old start end new d.report.rows n d.joined) (sym kept)
            (subst (λ o. TakesOver old start end new d.report.rows p.kept o) (sym joins)
            (subst (λ rs. TakesOver old start end new rs p.kept joined) (sym rows)
            (takes_over old start end new p doc h)));
        ticks =
            let equal = exact 0 (length p.rows) (omega arith) in
            let count = ap length rows in
            let behind = ap (λ o. rows_taken_over o d.report.rows) joins ∙ ap (rows_taken_over joined) rows in
            omega (arith, equal, count, behind, kept);
      }

-- how many rows stand behind the one that joins the old ones, where so many before it do not
few_behind : (j : JoiningState) (index : ℕ) (rows : List Row) (all : List Row) (joined : Option ℕ)
    → FirstFrom (Joins j) index rows joined → index + length rows ≡ length all → index < length all
    → index + rows_taken_over joined all < length all
few_behind j index rows all None h count some = omega (arith, some)
few_behind j index rows all (Some found) h count some =
    let there = found_there (Joins j) index rows found h in
    let behind = there.behind in
    let inside = there.inside in
    omega (arith, behind, inside, count)

-- Reading broke off.
pub broken_at_most : (old : DocState) (start end : ℕ) (new : List ℕ) (text : List ℕ) (commands : List Command)
    (kept before now : ℕ) → text ≡ edited old.text start end new → IsKept start old.report.rows commands kept
    → kept ≤ length old.report.rows → now + kept ≤ before + (length commands + 1)
    → BreaksEdited text old.source_type (joining old start end new commands) kept before now
    → TicksAtMost old start end new commands before now
broken_at_most old start end new text commands kept before now text_is is few less h = record {
  kept = kept;
  is_kept = is;
  at_most = less;
  joined_at_most =
      λ rows joined are spared.
      let j = joining old start end new commands in
      let split = h rows (subst (λ x. AreRows x old.source_type commands rows) (sym text_is) are) in
      let b = split.2 in
      let on : FirstFrom (Joins j) (kept + length b.rows) (b.next ∷ b.more) joined =
      found_behind (Joins j) kept b.rows (b.next ∷ b.more) joined b.none
      (subst (λ rs. FirstFrom (Joins j) kept rs joined)
      (ap (drop kept) split.1 ∙ behind_kept j kept split.0 few ∙ b.all_are) spared.joined_is) in
      let count = ap length split.1 ∙ length-append (take kept old.report.rows) split.0 in
      let front = length-take-le kept old.report.rows few in
      let back = ap length b.all_are ∙ length-append b.rows (b.next ∷ b.more) in
      let whole : kept + length b.rows + length (b.next ∷ b.more) ≡ length rows = omega (arith, count, front, back) in
      let behind =
      few_behind j (kept + length b.rows) (b.next ∷ b.more) rows joined on whole (omega (arith, count, front, back)) in
      let ticks = b.ticks in
      omega (arith, behind, ticks);
}
