use Rattle.key_elements.specs.Record.{IsList}
use Rattle.dp_server.proofs.Lengths.{IsWhole-front, IsRefused-front}
use Rattle.dp_server.proofs.BadPlaces.{not_memory, bad_place}
use Rattle.dp_server.proofs.show.input_list.Goals as goal

pub returns-in-Ok-read_list-clause-list : goal.returns-in-Ok-read_list-clause-list
returns-in-Ok-read_list-clause-list g c =
    let found = rw c.as_slice.ensures.value at c.in-Ok-read_list.ensures.found in
    IsWhole-front _ _ c.in-Ok.bytes.items _ c.in-Ok.ensures.value found

pub returns-clause-bad_input : goal.returns-clause-bad_input
returns-clause-bad_input g c = λ e.
    IsRefused-front _ _ c.in-Ok.bytes.items c.in-Ok.ensures.value (λ es list.
    let again : IsList c.as_slice.result.now es = rw c.as_slice.ensures.value list in
    not_memory c.of_refusal.result c.in-Err.refused c.of_refusal.ensures e (c.in-Err.ensures.only es again))

pub returns-clause-place : goal.returns-clause-place
returns-clause-place g c =
    let cause = rw c.as_slice.ensures.value at c.in-Err.ensures.refused in
    bad_place _ _ c.in-Ok.bytes.items c.of_refusal.result c.in-Err.refused c.in-Ok.ensures.value cause c.of_refusal.ensures
