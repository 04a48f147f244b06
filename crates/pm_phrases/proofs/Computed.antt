-- The texts are computed.
use Rattle.std.proofs.Common.{refl}
use Rattle.std.specs.Fmt.{digits}
use Rattle.pm_code.specs.Shown.{padded, shown_item}
use Rattle.pm_notes.specs.Names.{standard_name, standard_names, system_name, system_names}
use Rattle.pm_opcode.specs.Operations.{operation_of}
use Rattle.pm_opcode.specs.Table.{form_of, groups, implied, mnemonic_of, shape_of}
use Rattle.pm_phrases.specs.Arithmetic.{arithmetic_alone, arithmetic_one, arithmetic_three, arithmetic_two, between, compared, unary_on}
use Rattle.pm_phrases.specs.Calls.{called, called_text, external_name, returned, standard_call}
use Rattle.pm_phrases.specs.Cases.{arm_text, case_on, table_text}
use Rattle.pm_phrases.specs.Comparisons.{compare_two, kind_text, places_compared, values_compared}
use Rattle.pm_phrases.specs.Counts.{by_count, of_four, of_none, of_one, of_three, of_two, operation_in, plain_none, plain_one, plain_two}
use Rattle.pm_phrases.specs.Jumps.{condition_of, jump_alone, jump_one, jump_two}
use Rattle.pm_phrases.specs.Literals.{beside, escape, literal_alone}
use Rattle.pm_phrases.specs.Parts.{byte_one, byte_three, byte_two, field_four, field_one, field_three, field_two, packed, part_stored, text_two}
use Rattle.pm_phrases.specs.Phrases.{phrase_of, template}
use Rattle.pm_phrases.specs.Pointers.{indexed, is_by_word, is_unnumbered, loaded, moved, pointer_one, pointer_two}
use Rattle.pm_phrases.specs.Sets.{counted_text, is_member, members_text, one_counted, set_four, set_one, set_text, set_three, set_two, sets_joined}
use Rattle.pm_phrases.specs.Shown.{place_text, stored_text, value_text}
use Rattle.pm_phrases.specs.Spelled.{fits_opcode, has_shorter, spelling_of}
use Rattle.pm_phrases.specs.Variables.{local_word, variable_alone, variable_one, variable_text}
use Rattle.pm_words.specs.Words.{words_of}
use Rattle.pm_phrases.specs.Worked.{WorkedAddresses, WorkedCalls, WorkedCharacters, WorkedComparisons, WorkedConstants, WorkedJumps, WorkedLiterals}
use Rattle.pm_phrases.specs.Worked.{WorkedMissing, WorkedOperators, WorkedOthers, WorkedParts, WorkedSets, WorkedVariables}

pub worked_variables : WorkedVariables
unfolding arithmetic_alone arithmetic_one arithmetic_three arithmetic_two arm_text beside between by_count byte_one byte_three byte_two called called_text
    case_on compare_two compared condition_of counted_text digits escape external_name field_four field_one field_three field_two fits_opcode form_of groups
    has_shorter implied indexed is_by_word is_member is_unnumbered jump_alone jump_one jump_two kind_text literal_alone loaded local_word mnemonic_of moved
    of_four of_none of_one of_three of_two one_counted operation_in operation_of packed padded part_stored phrase_of place_text places_compared
    plain_none plain_one plain_two pointer_one pointer_two returned set_four set_one set_three set_two sets_joined shape_of shown_item spelling_of
    standard_call standard_name standard_names stored_text system_name system_names table_text template text_two unary_on value_text values_compared
    members_text set_text variable_alone variable_one variable_text words_of
worked_variables = record {
  parameter = refl;
  beyond = refl;
  global = refl;
  address = refl;
  outer = refl;
  stored = refl;
  stored_global = refl;
  stored_outer = refl;
  local_address = refl;
  outer_address = refl;
  not_shortest = refl;
  number_0 = refl;
  number_16 = refl;
  number_17 = refl;
  in_two_bytes = refl;
  both =
      refl;
}

pub worked_operators : WorkedOperators
unfolding arithmetic_alone arithmetic_one arithmetic_three arithmetic_two arm_text beside between by_count byte_one byte_three byte_two called called_text
    case_on compare_two compared condition_of counted_text digits escape external_name field_four field_one field_three field_two fits_opcode form_of groups
    has_shorter implied indexed is_by_word is_member is_unnumbered jump_alone jump_one jump_two kind_text literal_alone loaded local_word mnemonic_of moved
    of_four of_none of_one of_three of_two one_counted operation_in operation_of packed padded part_stored phrase_of place_text places_compared
    plain_none plain_one plain_two pointer_one pointer_two returned set_four set_one set_three set_two sets_joined shape_of shown_item spelling_of
    standard_call standard_name standard_names stored_text system_name system_names table_text template text_two unary_on value_text values_compared
    members_text set_text variable_alone variable_one variable_text words_of
worked_operators = record {
  from_left = refl;
  from_right = refl;
  stronger = refl;
  weaker = refl;
  compared = refl;
  divided = refl;
  remainder = refl;
  either = refl;
  both_of_either = refl;
  equal = refl;
  different = refl;
  at_most = refl;
  absolute = refl;
  squared = refl;
  nil = refl;
  complement = refl;
  negated =
      refl;
  negative = refl;
  long_constant = refl;
  constant_127 = refl;
  constant_128 = refl;
  not_member = refl;
  checked = refl;
}

pub worked_addresses : WorkedAddresses
unfolding arithmetic_alone arithmetic_one arithmetic_three arithmetic_two arm_text beside between by_count byte_one byte_three byte_two called called_text
    case_on compare_two compared condition_of counted_text digits escape external_name field_four field_one field_three field_two fits_opcode form_of groups
    has_shorter implied indexed is_by_word is_member is_unnumbered jump_alone jump_one jump_two kind_text literal_alone loaded local_word mnemonic_of moved
    of_four of_none of_one of_three of_two one_counted operation_in operation_of packed padded part_stored phrase_of place_text places_compared
    plain_none plain_one plain_two pointer_one pointer_two returned set_four set_one set_three set_two sets_joined shape_of shown_item spelling_of
    standard_call standard_name standard_names stored_text system_name system_names table_text template text_two unary_on value_text values_compared
    members_text set_text variable_alone variable_one variable_text words_of
worked_addresses = record {
  element = refl;
  larger = refl;
  value_of_element = refl;
  address_of_element = refl;
  word_of_variable = refl;
  first_of_variable = refl;
  word_of_value
      = refl;
  further_of_value = refl;
  long_word = refl;
  word_7 = refl;
  first_of_field = refl;
  further_of_element = refl;
  address_of_field = refl;
  by_field = refl;
  larger_by_mark = refl;
  at_negative = refl;
  at_complement = refl;
  at_negated = refl;
  at_words = refl;
  through = refl;
  field = refl;
  by_address = refl;
  moved = refl;
  words = refl;
}

pub worked_missing : WorkedMissing
unfolding arithmetic_alone arithmetic_one arithmetic_three arithmetic_two arm_text beside between by_count byte_one byte_three byte_two called called_text
    case_on compare_two compared condition_of counted_text digits escape external_name field_four field_one field_three field_two fits_opcode form_of groups
    has_shorter implied indexed is_by_word is_member is_unnumbered jump_alone jump_one jump_two kind_text literal_alone loaded local_word mnemonic_of moved
    of_four of_none of_one of_three of_two one_counted operation_in operation_of packed padded part_stored phrase_of place_text places_compared
    plain_none plain_one plain_two pointer_one pointer_two returned set_four set_one set_three set_two sets_joined shape_of shown_item spelling_of
    standard_call standard_name standard_names stored_text system_name system_names table_text template text_two unary_on value_text values_compared
    members_text set_text variable_alone variable_one variable_text words_of
worked_missing = record {
  one = refl;
  two = refl;
  called = refl;
  not_known = refl;
  named_not_known = refl;
  standard_not_known = refl;
  by_a_jump = refl;
}

pub worked_calls : WorkedCalls
unfolding arithmetic_alone arithmetic_one arithmetic_three arithmetic_two arm_text beside between by_count byte_one byte_three byte_two called called_text
    case_on compare_two compared condition_of counted_text digits escape external_name field_four field_one field_three field_two fits_opcode form_of groups
    has_shorter implied indexed is_by_word is_member is_unnumbered jump_alone jump_one jump_two kind_text literal_alone loaded local_word mnemonic_of moved
    of_four of_none of_one of_three of_two one_counted operation_in operation_of packed padded part_stored phrase_of place_text places_compared
    plain_none plain_one plain_two pointer_one pointer_two returned set_four set_one set_three set_two sets_joined shape_of shown_item spelling_of
    standard_call standard_name standard_names stored_text system_name system_names table_text template text_two unary_on value_text values_compared
    members_text set_text variable_alone variable_one variable_text words_of
worked_calls = record {
  towers = refl;
  alone = refl;
  base = refl;
  intermediate = refl;
  external = refl;
  system = refl;
  nameless = refl;
  standard = refl;
  unknown = refl;
  returns = refl;
  returns_words = refl;
  returns_from_base = refl;
  returns_words_from_base = refl;
}

pub worked_jumps : WorkedJumps
unfolding arithmetic_alone arithmetic_one arithmetic_three arithmetic_two arm_text beside between by_count byte_one byte_three byte_two called called_text
    case_on compare_two compared condition_of counted_text digits escape external_name field_four field_one field_three field_two fits_opcode form_of groups
    has_shorter implied indexed is_by_word is_member is_unnumbered jump_alone jump_one jump_two kind_text literal_alone loaded local_word mnemonic_of moved
    of_four of_none of_one of_three of_two one_counted operation_in operation_of packed padded part_stored phrase_of place_text places_compared
    plain_none plain_one plain_two pointer_one pointer_two returned set_four set_one set_three set_two sets_joined shape_of shown_item spelling_of
    standard_call standard_name standard_names stored_text system_name system_names table_text template text_two unary_on value_text values_compared
    members_text set_text variable_alone variable_one variable_text words_of
worked_jumps = record {
  if_not = refl;
  always = refl;
  by_entry = refl;
  if_different = refl;
  if_equal = refl;
  by_value = refl;
  by_no_value = refl;
}

pub worked_others : WorkedOthers
unfolding arithmetic_alone arithmetic_one arithmetic_three arithmetic_two arm_text beside between by_count byte_one byte_three byte_two called called_text
    case_on compare_two compared condition_of counted_text digits escape external_name field_four field_one field_three field_two fits_opcode form_of groups
    has_shorter implied indexed is_by_word is_member is_unnumbered jump_alone jump_one jump_two kind_text literal_alone loaded local_word mnemonic_of moved
    of_four of_none of_one of_three of_two one_counted operation_in operation_of packed padded part_stored phrase_of place_text places_compared
    plain_none plain_one plain_two pointer_one pointer_two returned set_four set_one set_three set_two sets_joined shape_of shown_item spelling_of
    standard_call standard_name standard_names stored_text system_name system_names table_text template text_two unary_on value_text values_compared
    members_text set_text variable_alone variable_one variable_text words_of
worked_others = record {
  byte = refl;
  other_segment = refl;
  real = refl;
}

pub worked_literals : WorkedLiterals
unfolding arithmetic_alone arithmetic_one arithmetic_three arithmetic_two arm_text beside between by_count byte_one byte_three byte_two called called_text
    case_on compare_two compared condition_of counted_text digits escape external_name field_four field_one field_three field_two fits_opcode form_of groups
    has_shorter implied indexed is_by_word is_member is_unnumbered jump_alone jump_one jump_two kind_text literal_alone loaded local_word mnemonic_of moved
    of_four of_none of_one of_three of_two one_counted operation_in operation_of packed padded part_stored phrase_of place_text places_compared
    plain_none plain_one plain_two pointer_one pointer_two returned set_four set_one set_three set_two sets_joined shape_of shown_item spelling_of
    standard_call standard_name standard_names stored_text system_name system_names table_text template text_two unary_on value_text values_compared
    members_text set_text variable_alone variable_one variable_text words_of
worked_literals = record {
  prompt = refl;
  apostrophe = refl;
  last_and_next = refl;
  first_of_string = refl;
  others = refl;
  array = refl;
  argument = refl;
  words = refl;
}

pub worked_comparisons : WorkedComparisons
unfolding arithmetic_alone arithmetic_one arithmetic_three arithmetic_two arm_text beside between by_count byte_one byte_three byte_two called called_text
    case_on compare_two compared condition_of counted_text digits escape external_name field_four field_one field_three field_two fits_opcode form_of groups
    has_shorter implied indexed is_by_word is_member is_unnumbered jump_alone jump_one jump_two kind_text literal_alone loaded local_word mnemonic_of moved
    of_four of_none of_one of_three of_two one_counted operation_in operation_of packed padded part_stored phrase_of place_text places_compared
    plain_none plain_one plain_two pointer_one pointer_two returned set_four set_one set_three set_two sets_joined shape_of shown_item spelling_of
    standard_call standard_name standard_names stored_text system_name system_names table_text template text_two unary_on value_text values_compared
    members_text set_text variable_alone variable_one variable_text words_of
worked_comparisons = record {
  assigned = refl;
  strings = refl;
  truths = refl;
  reals = refl;
  sets = refl;
  not_equal = refl;
  bytes = refl;
  words = refl;
}

pub worked_parts : WorkedParts
unfolding arithmetic_alone arithmetic_one arithmetic_three arithmetic_two arm_text beside between by_count byte_one byte_three byte_two called called_text
    case_on compare_two compared condition_of counted_text digits escape external_name field_four field_one field_three field_two fits_opcode form_of groups
    has_shorter implied indexed is_by_word is_member is_unnumbered jump_alone jump_one jump_two kind_text literal_alone loaded local_word mnemonic_of moved
    of_four of_none of_one of_three of_two one_counted operation_in operation_of packed padded part_stored phrase_of place_text places_compared
    plain_none plain_one plain_two pointer_one pointer_two returned set_four set_one set_three set_two sets_joined shape_of shown_item spelling_of
    standard_call standard_name standard_names stored_text system_name system_names table_text template text_two unary_on value_text values_compared
    members_text set_text variable_alone variable_one variable_text words_of
worked_parts = record {
  byte_loaded = refl;
  byte_stored = refl;
  character_loaded = refl;
  character_stored = refl;
  its_address = refl;
  packed_loaded = refl;
  packed_address =
      refl;
  at_character = refl;
  at_packed = refl;
  packed_stored = refl;
  bits = refl;
  bits_stored = refl;
}

pub worked_sets : WorkedSets
unfolding arithmetic_alone arithmetic_one arithmetic_three arithmetic_two arm_text beside between by_count byte_one byte_three byte_two called called_text
    case_on compare_two compared condition_of counted_text digits escape external_name field_four field_one field_three field_two fits_opcode form_of groups
    has_shorter implied indexed is_by_word is_member is_unnumbered jump_alone jump_one jump_two kind_text literal_alone loaded local_word mnemonic_of moved
    of_four of_none of_one of_three of_two one_counted operation_in operation_of packed padded part_stored phrase_of place_text places_compared
    plain_none plain_one plain_two pointer_one pointer_two returned set_four set_one set_three set_two sets_joined shape_of shown_item spelling_of
    standard_call standard_name standard_names stored_text system_name system_names table_text template text_two unary_on value_text values_compared
    members_text set_text variable_alone variable_one variable_text words_of
worked_sets = record {
  member = refl;
  member_of_words = refl;
  both = refl;
  union = refl;
  stronger = refl;
  no_sum = refl;
  with_words = refl;
  of_words = refl;
  beside_two_words = refl;
  two_words_beside = refl;
  not_adjusted =
      refl;
  before_words = refl;
  adjusted_words = refl;
  adjusted = refl;
  set_missing = refl;
}

pub worked_characters : WorkedCharacters
unfolding arithmetic_alone arithmetic_one arithmetic_three arithmetic_two arm_text beside between by_count byte_one byte_three byte_two called called_text
    case_on compare_two compared condition_of counted_text digits escape external_name field_four field_one field_three field_two fits_opcode form_of groups
    has_shorter implied indexed is_by_word is_member is_unnumbered jump_alone jump_one jump_two kind_text literal_alone loaded local_word mnemonic_of moved
    of_four of_none of_one of_three of_two one_counted operation_in operation_of packed padded part_stored phrase_of place_text places_compared
    plain_none plain_one plain_two pointer_one pointer_two returned set_four set_one set_three set_two sets_joined shape_of shown_item spelling_of
    standard_call standard_name standard_names stored_text system_name system_names table_text template text_two unary_on value_text values_compared
    members_text set_text variable_alone variable_one variable_text words_of
worked_characters = record {
  compared = refl;
  in_front = refl;
  of_bytes = refl;
  stored = refl;
  apostrophe = refl;
  backslash = refl;
  below = refl;
  above = refl;
  far_above = refl;
  not_shortest = refl;
  added = refl;
  of_words = refl;
  bits = refl;
}

pub worked_constants : WorkedConstants
unfolding arithmetic_alone arithmetic_one arithmetic_three arithmetic_two arm_text beside between by_count byte_one byte_three byte_two called called_text
    case_on compare_two compared condition_of counted_text digits escape external_name field_four field_one field_three field_two fits_opcode form_of groups
    has_shorter implied indexed is_by_word is_member is_unnumbered jump_alone jump_one jump_two kind_text literal_alone loaded local_word mnemonic_of moved
    of_four of_none of_one of_three of_two one_counted operation_in operation_of packed padded part_stored phrase_of place_text places_compared
    plain_none plain_one plain_two pointer_one pointer_two returned set_four set_one set_three set_two sets_joined shape_of shown_item spelling_of
    standard_call standard_name standard_names stored_text system_name system_names table_text template text_two unary_on value_text values_compared
    members_text set_text variable_alone variable_one variable_text words_of
worked_constants = record {
  two_words = refl;
  over_words = refl;
  one_word = refl;
  highest = refl;
  with_another = refl;
  no_word = refl;
  adjusted = refl;
  joined = refl;
  no_member = refl;
  a_word_more = refl;
  by_its_high_byte = refl;
  word_not_shortest = refl;
  count_not_shortest = refl;
  one_word_in_code = refl;
  other_count = refl;
  made_of_one = refl;
  made_of_range = refl;
  made_of_longer = refl;
  made_of_one_constant = refl;
}
