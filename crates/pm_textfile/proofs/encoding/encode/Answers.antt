use Rattle.std.proofs.Common.{◌≡◌, ◌∙◌, sym, ap, None, replicate, drop, take, length, length-drop, length-take, ◌++◌, ◌+◌, ◌-◌, ℕ, List, arith}
use Rattle.std.proofs.lemmas.List.{at_drop_all, take_rest}
use Rattle.std.proofs.lemmas.Result.{err_from_is_err_and}
use Rattle.pm_textfile.specs.Laying.{laid, text_file}
use Rattle.pm_textfile.specs.Writing.{TextLine, line_length, lines_fault, text_lines, text_fault}
use Rattle.pm_textfile.proofs.LineLaws.{coded-fits, fault_of_line, lines_fault-next, lines_of-drop}
use Rattle.pm_textfile.proofs.FaultLaws.{first-from_fault}
use Rattle.pm_textfile.proofs.PageLaws.{Writes-from_laid}
use Rattle.pm_textfile.proofs.encoding.encode.Goals.{In_ok-fill}
use Rattle.pm_textfile.proofs.RoundTrip.{text_of-written}
use Rattle.pm_textfile.proofs.encoding.encode.Goals as goal

pub loop-start-preserved : goal.loop-start-preserved
loop-start-preserved c =
    let text = c.args.text.now in
    let start = c.loop-start.start in
    let n = c.line_length.result in
    let long = c.line_length.ensures.length ∙ ap line_length (take_rest text start) in
    let step = lines_of-drop text start n (omega arith) long in
    let line = take ((start + n) - start) (drop start text) in
    let rest = text_lines (drop ((start + n) + 1) text) in
    let size : length line ≡ n = omega (arith, length-take ((start + n) - start) (drop start text), length-drop start text) in
    let sound = c.in_ok-check_line.ensures.sound in
    let old = c.loop-start.pages in
    record {
      written = c.in_ok-add_line.ensures.laid rest
          ∙ ap (λ (ls : List TextLine). old.bytes.items ++ laid old.room ls) (sym step) ∙ c.loop-start.invariant.written;
      faults = ap (λ (k : ℕ). lines_fault ((start + k) + 1) (c.loop-start.number + 1) rest) (sym size)
          ∙ sym (lines_fault-next start c.loop-start.number line rest sound)
          ∙ ap (lines_fault start c.loop-start.number) (sym step) ∙ c.loop-start.invariant.faults;
      counted = omega arith;
      within = omega arith;
    }

pub add_line-requires : goal.add_line-requires
add_line-requires c = record { fits = coded-fits _ _ _ c.in_ok-check_line.ensures.sound }

-- When the loop ends, no line remains, so the text has no fault.
no_fault : (c : In_ok-fill) → text_fault c.args.text.now ≡ None
unfolding text_lines lines_fault
no_fault c =
    sym c.loop-start.invariant.faults
    ∙ at_drop_all (λ rest. lines_fault c.loop-start.start c.loop-start.number (text_lines rest)) c.args.text.now c.loop-start.start (omega arith)

-- When the loop ends, the padding of the last page completes the file.
pages_laid : (c : In_ok-fill) → c.fill.new.self.bytes.items ≡ replicate 1024 0 ++ laid 0 (text_lines c.args.text.now)
unfolding text_lines laid
pages_laid c =
    let old = c.loop-start.pages in
    let done = at_drop_all (λ rest. laid old.room (text_lines rest)) c.args.text.now c.loop-start.start (omega arith) in
    c.in_ok-fill.ensures.filled ∙ ap (λ (bs : List ℕ). old.bytes.items ++ bs) (sym done) ∙ c.loop-start.invariant.written

pub returns-clause-sound : goal.returns-clause-sound
returns-clause-sound c = no_fault c

pub returns-clause-exact : goal.returns-clause-exact
unfolding text_file
returns-clause-exact c = pages_laid c

pub returns-clause-file : goal.returns-clause-file
returns-clause-file c = Writes-from_laid _ _ (no_fault c) (pages_laid c)

pub returns-in_err-check_line-clause-refusal : goal.returns-in_err-check_line-clause-refusal
returns-in_err-check_line-clause-refusal c =
    let p = err_from_is_err_and c.from_residual-in_err-check_line.result c.from_residual-in_err-check_line.ensures.1 in
    let start = c.loop-start.start in
    let long = c.line_length.ensures.length ∙ ap line_length (take_rest c.args.text.now start) in
    rw (p.1, p.2) (λ _. fault_of_line c.args.text.now start c.loop-start.number c.line_length.result _ (omega arith) long
    c.loop-start.invariant.faults c.in_err-check_line.ensures.refusal)

pub returns-in_err-check_line-clause-first : goal.returns-in_err-check_line-clause-first
returns-in_err-check_line-clause-first c =
    let p = err_from_is_err_and c.from_residual-in_err-check_line.result c.from_residual-in_err-check_line.ensures.1 in
    let start = c.loop-start.start in
    let long = c.line_length.ensures.length ∙ ap line_length (take_rest c.args.text.now start) in
    rw (p.1, p.2) (λ _. first-from_fault c.args.text.now _ (fault_of_line c.args.text.now start c.loop-start.number c.line_length.result _ (omega arith) long
    c.loop-start.invariant.faults c.in_err-check_line.ensures.refusal))

pub returns-clause-reads_back : goal.returns-clause-reads_back
returns-clause-reads_back c = text_of-written _ _ (Writes-from_laid _ _ (no_fault c) (pages_laid c))
