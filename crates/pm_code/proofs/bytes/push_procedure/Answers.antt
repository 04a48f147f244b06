use Rattle.std.proofs.Common.{◌≡◌, ◌∙◌, ◌++◌, ℕ, List, ap, arith, reverse, length}
use Rattle.pm_code.specs.Program.{code_bytes, entry_bytes}
use Rattle.pm_code.specs.Views.{placed_item, procedure_seen}
use Rattle.std.specs.Prelude.{map}
use Rattle.pm_code.proofs.Lists.{on_ok_map}
use Rattle.pm_code.proofs.Pushed.{Coded, Tabled, code_long, procedure_pushed, tables_long}
use Rattle.pm_code.proofs.bytes.push_procedure.Goals as goal

pub push_distances-requires : goal.push_distances-requires
push_distances-requires c =
    let p = procedure_seen c.args.procedure.now in
    let before : List ℕ = c.args.out.now.items in
    let code : List ℕ = c.push_code.new.out.items in
    let laid : Coded before code p = record {
      start = c.requires.start;
      bytes = c.in_ok-push_code.ensures.bytes ∙ ap (λ is. before ++ code_bytes (length before) (map placed_item is)) c.deref.ensures.value;
    } in
    record { short = omega (arith, code_long before code p laid, c.requires.short, ap length c.deref-2.ensures.value) }

pub push_attributes-requires-clause-there : goal.push_attributes-requires-clause-there
push_attributes-requires-clause-there c =
    let p = procedure_seen c.args.procedure.now in
    let before : List ℕ = c.args.out.now.items in
    let code : List ℕ = c.push_code.new.out.items in
    let laid : Tabled before code c.push_distances.new.out.items p = record {
      coded = record {
        start = c.requires.start;
        bytes = c.in_ok-push_code.ensures.bytes ∙ ap (λ is. before ++ code_bytes (length before) (map placed_item is)) c.deref.ensures.value;
      };
      bytes = c.in_ok-push_distances.ensures.bytes ∙ ap (λ ps. code ++ entry_bytes (length code) (reverse ps)) c.deref-2.ensures.value;
    } in
    tables_long before code c.push_distances.new.out.items p laid

pub push_attributes-requires-clause-short : goal.push_attributes-requires-clause-short
push_attributes-requires-clause-short c =
    let there = push_attributes-requires-clause-there c in
    omega (arith, there, c.requires.short)

pub returns : goal.returns
returns c =
    let p = procedure_seen c.args.procedure.now in
    let before : List ℕ = c.args.out.now.items in
    let code : List ℕ = c.push_code.new.out.items in
    let laid : Tabled before code c.push_distances.new.out.items p = record {
      coded = record {
        start = c.requires.start;
        bytes = c.in_ok-push_code.ensures.bytes ∙ ap (λ is. before ++ code_bytes (length before) (map placed_item is)) c.deref.ensures.value;
      };
      bytes = c.in_ok-push_distances.ensures.bytes ∙ ap (λ ps. code ++ entry_bytes (length code) (reverse ps)) c.deref-2.ensures.value;
    } in
    record {
      bytes = on_ok_map _ _ _
          (procedure_pushed before code c.push_distances.new.out.items c.push_attributes.new.out.items c.args.number p laid) c.push_attributes.ensures.bytes;
    }
