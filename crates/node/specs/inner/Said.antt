-- What a node that lies in a pool says.
use Rattle.node.specs.View.{View, view}
use Rattle.node.specs.declared.layout.Node.{Node}

abbrev pub said : Node → View
said n = view n.pool.now n.number
