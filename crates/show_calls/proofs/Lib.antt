mod Pressing
