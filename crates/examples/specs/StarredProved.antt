-- The starred examples of document 01, proved from the definitions, as a single list.
use Rattle.std.specs.Prelude.{refl}
use Rattle.std.proofs.Common.{ap}
use Rattle.base.specs.Numbers.{number, bytes_of}
use Rattle.base.specs.Buffers.{over}
use Rattle.base.specs.Bits.{collect}
use Rattle.base.specs.Sets.{rests_on, rests}
use Rattle.base.specs.SettingNumbers.{numbers}
use Rattle.base.specs.Codes.{operation_of, code_of}
use Rattle.base.specs.Results.{result_of}
use Rattle.base.specs.Inputs.{some_above, inputs_row}
use Rattle.base.specs.declared.Answer.{Answer}
use Rattle.base.specs.Parsing.{read_mark}
use Rattle.rule.specs.Header.{kind_of, working_of, read_count, read_kinds, read_header}
use Rattle.rule.specs.Expressions.{read_variable, read_word, read_bit, operation_with, expr_with, read_expr}
use Rattle.rule.specs.Blocks.{read_assign, branch_with, statement_with, block_with, block_fuel, read_block}
use Rattle.rule.specs.Rule.{read_rule}
use Rattle.rule.specs.Examples.{r1}
use Rattle.circuit.specs.Running.{figure_of, run_statement, run_block, run_rule, run_writes, written_for}
use Rattle.circuit.specs.Gates.{costs, conditions}
use Rattle.circuit.specs.PlainCircuit.{apply_gate, make_expr, assigns_in, assigns, choices, make_statement, make_block, plain_circuit}
use Rattle.circuit.specs.Examples.{r2, r7, example_2}
use Rattle.circuit_needed.specs.Pass.{preconditions, precondition_sets}
use Rattle.circuit.specs.Whole.{whole_within, rule_answer}
use Rattle.plan.specs.PlanFile.{groups_in}
use Rattle.plan.specs.Groups.{groups, rests_of, waits_for}
use Rattle.plan.specs.Order.{order}
use Rattle.plan.specs.Rows.{plan_row, plan_answer, is_costly, placed}
use Rattle.plan.specs.Examples.{p1, example_5}
use Rattle.file.specs.Examples.{file3}
use Rattle.fused.specs.Examples.{example_3, example_3_answer, example_3_short}
use Rattle.run.specs.Inputs.{input_row}
use Rattle.run.specs.Direct.{run_answer, run_results}
use Rattle.examples.specs.Starred.{Starred, both_group}
use Rattle.examples.specs.MeaningLaws.{precondition, unneeded, rests_on_lem, waits_for_lem, written_whole, written_short}
use Rattle.circuit_needed.specs.Needed.{wanted_of}

pub starred : Starred
unfolding number bytes_of kind_of working_of operation_of code_of result_of read_mark read_count read_kinds read_header read_variable read_word read_bit operation_with expr_with read_expr
    read_assign branch_with statement_with block_with block_fuel read_block read_rule figure_of run_statement run_block run_rule run_writes apply_gate make_expr assigns_in assigns choices
    make_statement make_block plain_circuit costs conditions collect numbers preconditions precondition_sets whole_within rule_answer rests_on rests groups_in groups rests_of
    waits_for order plan_row plan_answer over some_above inputs_row input_row run_answer run_results placed is_costly wanted_of written_for
starred =
    record {
      example_1 = (
        refl,
        refl,
        precondition r1 refl 3 0xAAAAAAAAAAAAAAAAAAAAAAAAAAAAAAAAAAAAAAAAAAAAAAAAAAAAAAAAAAAAAAAA refl,
        precondition r1 refl 4 0x5555555555555555555555555555555555555555555555555555555555555555 refl,
      );
      example_2 = (example_2, refl, λ a b c. refl);
      example_3 = (
        example_3,
        refl,
        example_3_answer,
        example_3_short,
        λ d l. written_whole r1 p1 file3 d example_3 (ap (λ (a : Answer). a.number) example_3_answer) l,
        λ d l. written_short r1 p1 d 113 example_3_short l,
      );
      example_4 = (refl, refl, refl, refl, refl, refl);
      example_5 = example_5;
      example_6 = (
        refl,
        refl,
        refl,
        refl,
        refl,
        refl,
        refl,
        refl,
        rests_on_lem r2 refl 7 6 refl,
        waits_for_lem r2 refl both_group 4 5 refl,
        waits_for_lem r2 refl both_group 5 4 refl,
        refl,
        refl,
      );
      example_7 = (refl, refl, refl, unneeded r7 refl 1 refl, unneeded r7 refl 2 refl);
      example_8 = (refl, refl, refl);
      example_9 = (refl, refl, refl, λ f. refl);
    }
