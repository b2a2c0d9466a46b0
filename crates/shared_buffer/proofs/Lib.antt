mod RoomLemmas
mod TokenLemmas
mod HandLemmas
