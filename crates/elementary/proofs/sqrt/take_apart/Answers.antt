-- The digits and the scale of the number with these bits.
use Rattle.std.proofs.Common.{rules}
use Rattle.elementary.proofs.BitFields.{shift_room, shift_low, shift_high, shift_value, normal_scaled}
use Rattle.elementary.proofs.sqrt.take_apart.Goals as goal

pub overflow_sub-shift : goal.overflow_sub-shift
overflow_sub-shift c = search (rules, shift_room)

pub returns-then-field-eq0-clause-digits : goal.returns-then-field-eq0-clause-digits
returns-then-field-eq0-clause-digits c = search (rules, shift_low, shift_high)

pub returns-then-field-eq0-clause-value : goal.returns-then-field-eq0-clause-value
returns-then-field-eq0-clause-value c = search (rules, shift_value)

pub returns-else-field-eq0-clause-value : goal.returns-else-field-eq0-clause-value
returns-else-field-eq0-clause-value c = search (rules, normal_scaled)
