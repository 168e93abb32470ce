use Rattle.jl_natives.proofs.Places.{one_asked, taken_there}
use Rattle.jl_natives.proofs.boxes.ask.Goals as goal

pub ask_one-requires : goal.ask_one-requires
ask_one-requires g c = taken_there _ c.args.natives.now.items c.args.place c.index_mut.result.now c.args.args.now c.requires.there c.index_mut.ensures.value c.requires.kinds

pub returns : goal.returns
returns g c = one_asked _ c.args.natives.now.items c.args.place c.index_mut.result.now c.ask_one.new.native c.args.args.now c.ask_one.result c.requires.there c.index_mut.ensures.value c.ask_one.ensures
