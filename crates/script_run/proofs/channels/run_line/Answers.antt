use Rattle.std.proofs.Common.{◌∙◌, ℕ, [], ap, get_or, subst, sym}
use Rattle.cppc_calls.specs.declared.wish.Wish.{Wish}
use Rattle.pcc_script.specs.Limits.{IsAction}
use Rattle.channel_turns.specs.ChannelRuns.{call_by}
use Rattle.script_run.specs.DeviceChannels.{channels_by}
use Rattle.script_run.specs.StepRun.{Asks, OfCall, OfRead, OfWish, ask_of, wish_of}
use Rattle.script_run.specs.Channels.{starts_of}
use Rattle.script_run.proofs.ChannelLists.{Turned, ask_channels, ask_early, ask_starts, call_asks, early_at, of_read, of_set, outcome_of, set_there, turned, wait_early, wait_starts, wait_turn}
use Rattle.script_run.proofs.channels.run_line.Goals as goal

pub returns-in_ok-answer-in-Call-clause-outcome : goal.returns-in_ok-answer-in-Call-clause-outcome
returns-in_ok-answer-in-Call-clause-outcome c =
    let t : Turned (ask_of c.args.cpus.now c.args.action.now) c.args.channels.now.items c.place_of-place.result c.call.new.self c.in_ok-answer-in-Call.answer =
    turned (ask_of c.args.cpus.now c.args.action.now) c.args.channels.now.items c.place_of-place.result c.index_mut.result.now c.call.new.self c.in-Call.subspace (OfCall (call_by c.in-Call.worker c.in-Call.code c.as_slice.result.now c.in-Call.polls c.in-Call.hold)) c.in_ok-answer-in-Call.answer
    (call_asks c.args.cpus.now c.args.action.now c.in-Call.worker c.in-Call.subspace c.in-Call.code c.in-Call.bytes c.as_slice.result.now c.in-Call.polls c.in-Call.hold c.in-Call.is c.as_slice.ensures) c.requires.distinct (rw (← c.deref.ensures.value) c.place_of-place.ensures.within) c.index_mut.ensures.value (rw (← c.deref.ensures.value) c.place_of-place.ensures.named) c.in_ok-answer-in-Call.ensures.answered in
    outcome_of (ask_of c.args.cpus.now c.args.action.now) c.args.channels.now.items c.place_of-place.result c.call.new.self c.in_ok-answer-in-Call.answer (rw (← c.deref.ensures.value) c.place_of-place.ensures.within) c.in_ok-answer-in-Call.ensures.placed t

pub returns-in_ok-answer-in-Call-clause-channels : goal.returns-in_ok-answer-in-Call-clause-channels
returns-in_ok-answer-in-Call-clause-channels c =
    let t : Turned (ask_of c.args.cpus.now c.args.action.now) c.args.channels.now.items c.place_of-place.result c.call.new.self c.in_ok-answer-in-Call.answer =
    turned (ask_of c.args.cpus.now c.args.action.now) c.args.channels.now.items c.place_of-place.result c.index_mut.result.now c.call.new.self c.in-Call.subspace (OfCall (call_by c.in-Call.worker c.in-Call.code c.as_slice.result.now c.in-Call.polls c.in-Call.hold)) c.in_ok-answer-in-Call.answer
    (call_asks c.args.cpus.now c.args.action.now c.in-Call.worker c.in-Call.subspace c.in-Call.code c.in-Call.bytes c.as_slice.result.now c.in-Call.polls c.in-Call.hold c.in-Call.is c.as_slice.ensures) c.requires.distinct (rw (← c.deref.ensures.value) c.place_of-place.ensures.within) c.index_mut.ensures.value (rw (← c.deref.ensures.value) c.place_of-place.ensures.named) c.in_ok-answer-in-Call.ensures.answered in
    ask_channels (ask_of c.args.cpus.now c.args.action.now) c.args.channels.now.items c.place_of-place.result c.call.new.self c.in_ok-answer-in-Call.answer t

pub returns-in_err-answer-in-Call-clause-starts : goal.returns-in_err-answer-in-Call-clause-starts
returns-in_err-answer-in-Call-clause-starts c = ask_starts c.args.channels.now.items c.place_of-place.result c.index_mut.result.now c.call.new.self (rw (← c.deref.ensures.value) c.place_of-place.ensures.within) c.index_mut.ensures.value c.call.ensures.start

pub returns-in_ok-answer-in-Call-clause-starts : goal.returns-in_ok-answer-in-Call-clause-starts
returns-in_ok-answer-in-Call-clause-starts c = ask_starts c.args.channels.now.items c.place_of-place.result c.index_mut.result.now c.call.new.self (rw (← c.deref.ensures.value) c.place_of-place.ensures.within) c.index_mut.ensures.value c.call.ensures.start

pub returns-in_ok-answer-in-Call-clause-readings : goal.returns-in_ok-answer-in-Call-clause-readings
returns-in_ok-answer-in-Call-clause-readings c = λ count h.
    ask_early c.args.channels.now.items c.place_of-place.result c.index_mut.result.now c.call.new.self _ c.in_ok-answer-in-Call.answer count (rw (← c.deref.ensures.value) c.place_of-place.ensures.within) c.index_mut.ensures.value c.in_ok-answer-in-Call.ensures.answered c.call.ensures.readings h

pub call-requires-clause-early : goal.call-requires-clause-early
call-requires-clause-early c = early_at c.args.channels.now.items c.place_of-place.result c.index_mut.result.now (rw (← c.deref.ensures.value) c.place_of-place.ensures.within) c.index_mut.ensures.value c.requires.early

pub returns-in-Wait-clause-channels : goal.returns-in-Wait-clause-channels
returns-in-Wait-clause-channels c = rw c.in-Wait.is (wait_turn c.in-Wait.n (channels_by c.args.channels.now.items) (channels_by c.wait_all.new.channels.items) (subst IsAction c.in-Wait.is c.requires.line.within) c.requires.early c.wait_all.ensures)

pub returns-in-Wait-clause-starts : goal.returns-in-Wait-clause-starts
returns-in-Wait-clause-starts c = wait_starts c.in-Wait.n (channels_by c.args.channels.now.items) (channels_by c.wait_all.new.channels.items) c.wait_all.ensures

pub returns-in-Wait-clause-readings : goal.returns-in-Wait-clause-readings
returns-in-Wait-clause-readings c = λ count h. wait_early c.in-Wait.n (channels_by c.args.channels.now.items) (channels_by c.wait_all.new.channels.items) count c.wait_all.ensures (subst IsAction c.in-Wait.is c.requires.line.within) h

pub read-requires-clause-right : goal.read-requires-clause-right
read-requires-clause-right c =
    let k = of_read c.args.cpus.now c.args.channels.now.items c.args.action.now c.in-Read.worker c.in-Read.cpu c.in-Read.polls c.in-Read.hold (record { subspace = 0; sources = [] }) c.from.result c.place_of-place-in-Read.result c.index_mut-in-Read.result.now c.in-Read.is c.requires.line.asks c.from.ensures (rw (← c.deref-in-Read.ensures.value) c.place_of-place-in-Read.ensures.within) c.index_mut-in-Read.ensures.value (rw (← c.deref-in-Read.ensures.value) c.place_of-place-in-Read.ensures.named) in
    k.suits.0

pub read-requires-clause-inside : goal.read-requires-clause-inside
read-requires-clause-inside c =
    let k = of_read c.args.cpus.now c.args.channels.now.items c.args.action.now c.in-Read.worker c.in-Read.cpu c.in-Read.polls c.in-Read.hold (record { subspace = 0; sources = [] }) c.from.result c.place_of-place-in-Read.result c.index_mut-in-Read.result.now c.in-Read.is c.requires.line.asks c.from.ensures (rw (← c.deref-in-Read.ensures.value) c.place_of-place-in-Read.ensures.within) c.index_mut-in-Read.ensures.value (rw (← c.deref-in-Read.ensures.value) c.place_of-place-in-Read.ensures.named) in
    k.suits.1

pub read-requires-clause-early : goal.read-requires-clause-early
read-requires-clause-early c = early_at c.args.channels.now.items c.place_of-place-in-Read.result c.index_mut-in-Read.result.now (rw (← c.deref-in-Read.ensures.value) c.place_of-place-in-Read.ensures.within) c.index_mut-in-Read.ensures.value c.requires.early

pub returns-in_ok-answer-in-Read-clause-outcome : goal.returns-in_ok-answer-in-Read-clause-outcome
returns-in_ok-answer-in-Read-clause-outcome c =
    let k = of_read c.args.cpus.now c.args.channels.now.items c.args.action.now c.in-Read.worker c.in-Read.cpu c.in-Read.polls c.in-Read.hold (record { subspace = 0; sources = [] }) c.from.result c.place_of-place-in-Read.result c.index_mut-in-Read.result.now c.in-Read.is c.requires.line.asks c.from.ensures (rw (← c.deref-in-Read.ensures.value) c.place_of-place-in-Read.ensures.within) c.index_mut-in-Read.ensures.value (rw (← c.deref-in-Read.ensures.value) c.place_of-place-in-Read.ensures.named) in
    let t : Turned (ask_of c.args.cpus.now c.args.action.now) c.args.channels.now.items c.place_of-place-in-Read.result c.read.new.self c.in_ok-answer-in-Read.answer =
    turned (ask_of c.args.cpus.now c.args.action.now) c.args.channels.now.items c.place_of-place-in-Read.result c.index_mut-in-Read.result.now c.read.new.self c.from.result (OfRead (record { caller = c.in-Read.worker; binding = get_or c.args.cpus.now c.in-Read.cpu (record { subspace = 0; sources = [] }); polls = c.in-Read.polls; hold = c.in-Read.hold })) c.in_ok-answer-in-Read.answer
    (k.asks ∙ ap (λ (n : ℕ). Asks n (OfRead (record { caller = c.in-Read.worker; binding = get_or c.args.cpus.now c.in-Read.cpu (record { subspace = 0; sources = [] }); polls = c.in-Read.polls; hold = c.in-Read.hold }))) (sym c.from.ensures)) c.requires.distinct (rw (← c.deref-in-Read.ensures.value) c.place_of-place-in-Read.ensures.within) c.index_mut-in-Read.ensures.value (rw (← c.deref-in-Read.ensures.value) c.place_of-place-in-Read.ensures.named) c.in_ok-answer-in-Read.ensures.answered in
    outcome_of (ask_of c.args.cpus.now c.args.action.now) c.args.channels.now.items c.place_of-place-in-Read.result c.read.new.self c.in_ok-answer-in-Read.answer (rw (← c.deref-in-Read.ensures.value) c.place_of-place-in-Read.ensures.within) c.in_ok-answer-in-Read.ensures.placed t

pub returns-in_ok-answer-in-Read-clause-channels : goal.returns-in_ok-answer-in-Read-clause-channels
returns-in_ok-answer-in-Read-clause-channels c =
    let k = of_read c.args.cpus.now c.args.channels.now.items c.args.action.now c.in-Read.worker c.in-Read.cpu c.in-Read.polls c.in-Read.hold (record { subspace = 0; sources = [] }) c.from.result c.place_of-place-in-Read.result c.index_mut-in-Read.result.now c.in-Read.is c.requires.line.asks c.from.ensures (rw (← c.deref-in-Read.ensures.value) c.place_of-place-in-Read.ensures.within) c.index_mut-in-Read.ensures.value (rw (← c.deref-in-Read.ensures.value) c.place_of-place-in-Read.ensures.named) in
    let t : Turned (ask_of c.args.cpus.now c.args.action.now) c.args.channels.now.items c.place_of-place-in-Read.result c.read.new.self c.in_ok-answer-in-Read.answer =
    turned (ask_of c.args.cpus.now c.args.action.now) c.args.channels.now.items c.place_of-place-in-Read.result c.index_mut-in-Read.result.now c.read.new.self c.from.result (OfRead (record { caller = c.in-Read.worker; binding = get_or c.args.cpus.now c.in-Read.cpu (record { subspace = 0; sources = [] }); polls = c.in-Read.polls; hold = c.in-Read.hold })) c.in_ok-answer-in-Read.answer
    (k.asks ∙ ap (λ (n : ℕ). Asks n (OfRead (record { caller = c.in-Read.worker; binding = get_or c.args.cpus.now c.in-Read.cpu (record { subspace = 0; sources = [] }); polls = c.in-Read.polls; hold = c.in-Read.hold }))) (sym c.from.ensures)) c.requires.distinct (rw (← c.deref-in-Read.ensures.value) c.place_of-place-in-Read.ensures.within) c.index_mut-in-Read.ensures.value (rw (← c.deref-in-Read.ensures.value) c.place_of-place-in-Read.ensures.named) c.in_ok-answer-in-Read.ensures.answered in
    ask_channels (ask_of c.args.cpus.now c.args.action.now) c.args.channels.now.items c.place_of-place-in-Read.result c.read.new.self c.in_ok-answer-in-Read.answer t

pub returns-in_err-answer-in-Read-clause-starts : goal.returns-in_err-answer-in-Read-clause-starts
returns-in_err-answer-in-Read-clause-starts c = ask_starts c.args.channels.now.items c.place_of-place-in-Read.result c.index_mut-in-Read.result.now c.read.new.self (rw (← c.deref-in-Read.ensures.value) c.place_of-place-in-Read.ensures.within) c.index_mut-in-Read.ensures.value c.read.ensures.start

pub returns-in_ok-answer-in-Read-clause-starts : goal.returns-in_ok-answer-in-Read-clause-starts
returns-in_ok-answer-in-Read-clause-starts c = ask_starts c.args.channels.now.items c.place_of-place-in-Read.result c.index_mut-in-Read.result.now c.read.new.self (rw (← c.deref-in-Read.ensures.value) c.place_of-place-in-Read.ensures.within) c.index_mut-in-Read.ensures.value c.read.ensures.start

pub returns-in_ok-answer-in-Read-clause-readings : goal.returns-in_ok-answer-in-Read-clause-readings
returns-in_ok-answer-in-Read-clause-readings c = λ count h.
    ask_early c.args.channels.now.items c.place_of-place-in-Read.result c.index_mut-in-Read.result.now c.read.new.self _ c.in_ok-answer-in-Read.answer count (rw (← c.deref-in-Read.ensures.value) c.place_of-place-in-Read.ensures.within) c.index_mut-in-Read.ensures.value c.in_ok-answer-in-Read.ensures.answered c.read.ensures.readings h

pub bounds-cpus-wish : goal.bounds-cpus-wish
bounds-cpus-wish c = (set_there (starts_of (channels_by c.args.channels.now.items)) c.args.cpus.now c.args.action.now c.in-Set.worker c.in-Set.wish c.in-Set.polls c.in-Set.hold (record { subspace = 0; sources = [] }) c.in-Set.is c.requires.line.asks).0

pub place_of-place-requires-in-Set : goal.place_of-place-requires-in-Set
place_of-place-requires-in-Set c =
    rw (c.from-in-Set.ensures, c.deref-in-Set.ensures.value) ((set_there (starts_of (channels_by c.args.channels.now.items)) c.args.cpus.now c.args.action.now c.in-Set.worker c.in-Set.wish c.in-Set.polls c.in-Set.hold (record { subspace = 0; sources = [] }) c.in-Set.is c.requires.line.asks).1)

pub set-requires-clause-right : goal.set-requires-clause-right
set-requires-clause-right c =
    let k = of_set c.args.cpus.now c.args.channels.now.items c.args.action.now c.in-Set.worker c.in-Set.wish c.in-Set.polls c.in-Set.hold (record { subspace = 0; sources = [] }) c.from-in-Set.result c.place_of-place-in-Set.result c.index_mut-in-Set.result.now c.in-Set.is c.requires.line.asks c.from-in-Set.ensures (rw (← c.deref-in-Set.ensures.value) c.place_of-place-in-Set.ensures.within) c.index_mut-in-Set.ensures.value (rw (← c.deref-in-Set.ensures.value) c.place_of-place-in-Set.ensures.named) in
    k.suits.0

pub set-requires-clause-inside : goal.set-requires-clause-inside
set-requires-clause-inside c =
    let k = of_set c.args.cpus.now c.args.channels.now.items c.args.action.now c.in-Set.worker c.in-Set.wish c.in-Set.polls c.in-Set.hold (record { subspace = 0; sources = [] }) c.from-in-Set.result c.place_of-place-in-Set.result c.index_mut-in-Set.result.now c.in-Set.is c.requires.line.asks c.from-in-Set.ensures (rw (← c.deref-in-Set.ensures.value) c.place_of-place-in-Set.ensures.within) c.index_mut-in-Set.ensures.value (rw (← c.deref-in-Set.ensures.value) c.place_of-place-in-Set.ensures.named) in
    k.suits.1

pub set-requires-clause-early : goal.set-requires-clause-early
set-requires-clause-early c = early_at c.args.channels.now.items c.place_of-place-in-Set.result c.index_mut-in-Set.result.now (rw (← c.deref-in-Set.ensures.value) c.place_of-place-in-Set.ensures.within) c.index_mut-in-Set.ensures.value c.requires.early

pub returns-in_ok-answer-in-Set-clause-outcome : goal.returns-in_ok-answer-in-Set-clause-outcome
returns-in_ok-answer-in-Set-clause-outcome c =
    let k = of_set c.args.cpus.now c.args.channels.now.items c.args.action.now c.in-Set.worker c.in-Set.wish c.in-Set.polls c.in-Set.hold (record { subspace = 0; sources = [] }) c.from-in-Set.result c.place_of-place-in-Set.result c.index_mut-in-Set.result.now c.in-Set.is c.requires.line.asks c.from-in-Set.ensures (rw (← c.deref-in-Set.ensures.value) c.place_of-place-in-Set.ensures.within) c.index_mut-in-Set.ensures.value (rw (← c.deref-in-Set.ensures.value) c.place_of-place-in-Set.ensures.named) in
    let t : Turned (ask_of c.args.cpus.now c.args.action.now) c.args.channels.now.items c.place_of-place-in-Set.result c.set.new.self c.in_ok-answer-in-Set.answer =
    turned (ask_of c.args.cpus.now c.args.action.now) c.args.channels.now.items c.place_of-place-in-Set.result c.index_mut-in-Set.result.now c.set.new.self c.from-in-Set.result (OfWish (record { caller = c.in-Set.worker; binding = get_or c.args.cpus.now c.in-Set.wish.cpu (record { subspace = 0; sources = [] }); wish = c.asked_wish-wish.result; polls = c.in-Set.polls; hold = c.in-Set.hold })) c.in_ok-answer-in-Set.answer
    (k.asks ∙ ap (λ (n : ℕ). Asks n (OfWish (record { caller = c.in-Set.worker; binding = get_or c.args.cpus.now c.in-Set.wish.cpu (record { subspace = 0; sources = [] }); wish = wish_of c.in-Set.wish; polls = c.in-Set.polls; hold = c.in-Set.hold }))) (sym c.from-in-Set.ensures) ∙ ap (λ (v : Wish). Asks c.from-in-Set.result (OfWish (record { caller = c.in-Set.worker; binding = get_or c.args.cpus.now c.in-Set.wish.cpu (record { subspace = 0; sources = [] }); wish = v; polls = c.in-Set.polls; hold = c.in-Set.hold }))) (sym c.asked_wish-wish.ensures)) c.requires.distinct (rw (← c.deref-in-Set.ensures.value) c.place_of-place-in-Set.ensures.within) c.index_mut-in-Set.ensures.value (rw (← c.deref-in-Set.ensures.value) c.place_of-place-in-Set.ensures.named) c.in_ok-answer-in-Set.ensures.answered in
    outcome_of (ask_of c.args.cpus.now c.args.action.now) c.args.channels.now.items c.place_of-place-in-Set.result c.set.new.self c.in_ok-answer-in-Set.answer (rw (← c.deref-in-Set.ensures.value) c.place_of-place-in-Set.ensures.within) c.in_ok-answer-in-Set.ensures.placed t

pub returns-in_ok-answer-in-Set-clause-channels : goal.returns-in_ok-answer-in-Set-clause-channels
returns-in_ok-answer-in-Set-clause-channels c =
    let k = of_set c.args.cpus.now c.args.channels.now.items c.args.action.now c.in-Set.worker c.in-Set.wish c.in-Set.polls c.in-Set.hold (record { subspace = 0; sources = [] }) c.from-in-Set.result c.place_of-place-in-Set.result c.index_mut-in-Set.result.now c.in-Set.is c.requires.line.asks c.from-in-Set.ensures (rw (← c.deref-in-Set.ensures.value) c.place_of-place-in-Set.ensures.within) c.index_mut-in-Set.ensures.value (rw (← c.deref-in-Set.ensures.value) c.place_of-place-in-Set.ensures.named) in
    let t : Turned (ask_of c.args.cpus.now c.args.action.now) c.args.channels.now.items c.place_of-place-in-Set.result c.set.new.self c.in_ok-answer-in-Set.answer =
    turned (ask_of c.args.cpus.now c.args.action.now) c.args.channels.now.items c.place_of-place-in-Set.result c.index_mut-in-Set.result.now c.set.new.self c.from-in-Set.result (OfWish (record { caller = c.in-Set.worker; binding = get_or c.args.cpus.now c.in-Set.wish.cpu (record { subspace = 0; sources = [] }); wish = c.asked_wish-wish.result; polls = c.in-Set.polls; hold = c.in-Set.hold })) c.in_ok-answer-in-Set.answer
    (k.asks ∙ ap (λ (n : ℕ). Asks n (OfWish (record { caller = c.in-Set.worker; binding = get_or c.args.cpus.now c.in-Set.wish.cpu (record { subspace = 0; sources = [] }); wish = wish_of c.in-Set.wish; polls = c.in-Set.polls; hold = c.in-Set.hold }))) (sym c.from-in-Set.ensures) ∙ ap (λ (v : Wish). Asks c.from-in-Set.result (OfWish (record { caller = c.in-Set.worker; binding = get_or c.args.cpus.now c.in-Set.wish.cpu (record { subspace = 0; sources = [] }); wish = v; polls = c.in-Set.polls; hold = c.in-Set.hold }))) (sym c.asked_wish-wish.ensures)) c.requires.distinct (rw (← c.deref-in-Set.ensures.value) c.place_of-place-in-Set.ensures.within) c.index_mut-in-Set.ensures.value (rw (← c.deref-in-Set.ensures.value) c.place_of-place-in-Set.ensures.named) c.in_ok-answer-in-Set.ensures.answered in
    ask_channels (ask_of c.args.cpus.now c.args.action.now) c.args.channels.now.items c.place_of-place-in-Set.result c.set.new.self c.in_ok-answer-in-Set.answer t

pub returns-in_err-answer-in-Set-clause-starts : goal.returns-in_err-answer-in-Set-clause-starts
returns-in_err-answer-in-Set-clause-starts c = ask_starts c.args.channels.now.items c.place_of-place-in-Set.result c.index_mut-in-Set.result.now c.set.new.self (rw (← c.deref-in-Set.ensures.value) c.place_of-place-in-Set.ensures.within) c.index_mut-in-Set.ensures.value c.set.ensures.start

pub returns-in_ok-answer-in-Set-clause-starts : goal.returns-in_ok-answer-in-Set-clause-starts
returns-in_ok-answer-in-Set-clause-starts c = ask_starts c.args.channels.now.items c.place_of-place-in-Set.result c.index_mut-in-Set.result.now c.set.new.self (rw (← c.deref-in-Set.ensures.value) c.place_of-place-in-Set.ensures.within) c.index_mut-in-Set.ensures.value c.set.ensures.start

pub returns-in_ok-answer-in-Set-clause-readings : goal.returns-in_ok-answer-in-Set-clause-readings
returns-in_ok-answer-in-Set-clause-readings c = λ count h.
    ask_early c.args.channels.now.items c.place_of-place-in-Set.result c.index_mut-in-Set.result.now c.set.new.self _ c.in_ok-answer-in-Set.answer count (rw (← c.deref-in-Set.ensures.value) c.place_of-place-in-Set.ensures.within) c.index_mut-in-Set.ensures.value c.in_ok-answer-in-Set.ensures.answered c.set.ensures.readings h
