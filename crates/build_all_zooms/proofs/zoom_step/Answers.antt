-- `build_all_zooms::zoom_step` meets its contract: its zoom is one of the table's. Assumes nothing.
use Rattle.build_all_zooms.proofs.zoom_step.Goals as goal

pub zoom_parts-requires : goal.zoom_parts-requires
zoom_parts-requires c =
    let p = c.requires in (
      p.0,
      record {
        searchable = record { promised = p.1; own = p.11 };
        placed = p.3;
        slotted = p.10;
        notes = p.4;
        lamps = p.6;
        watts = p.12;
      },
      p.5,
    )
