use Rattle.jl_config.specs.ReadRows.{reads_in}
use Rattle.jl_config.proofs.Lists.{flat_map_step}
use Rattle.jl_config.proofs.Collects.{item_among}
use Rattle.jl_config.proofs.AllReads.{all_reads}
use Rattle.jl_config.proofs.reads.reads_of.Goals as goal

pub push_reads-requires : goal.push_reads-requires
push_reads-requires c = c.requires.readings.only c.reading-item.result (item_among c.args.readings.now c.loop-reading.reading-index c.reading-item.result c.loop-reading-test.true c.reading-item.is)

pub loop-reading-preserved : goal.loop-reading-preserved
loop-reading-preserved c = flat_map_step (reads_in c.args.scene.now) c.args.readings.now c.loop-reading.reading-index c.reading-item.result c.loop-reading.reads.items _ c.loop-reading-test.true c.reading-item.is c.loop-reading.invariant c.in_ok-push_reads.ensures

pub returns : goal.returns
returns c = all_reads c.args.scene.now c.requires.apart c.args.readings.now c.loop-reading.reading-index c.loop-reading.reads.items c.loop-reading-test.false c.requires.readings c.loop-reading.invariant
